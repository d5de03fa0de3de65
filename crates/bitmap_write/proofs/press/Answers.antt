-- `bitmap_write::press` meets its contract: the step tells the count.
use mathlib.Core.Path.{sym, ap, ap₂, ◌∙◌}
use Prim.Native.Nat.{ℕ}
use native.Mathlib.Omega.{arith}
use Rattle.bitmap_write.specs.Completed.{pressed}
use Rattle.bitmap_write.proofs.Pressed.{told, press_all, press_quarter}
use Rattle.bitmap_write.proofs.press.Goals as goal

pub returns-in-1 : goal.returns-in-1
returns-in-1 c =
    let a = c.args in
    let e = c.in-1.is in
    press_all a.x (omega arith) ∙ ap₂ (λ (s n : ℕ). pressed s n a.x) (sym e) (sym ((told _ _ c.requires).0 e))

pub returns-in-2 : goal.returns-in-2
returns-in-2 c =
    let e = c.in-2.is in
    c.half.ensures ∙ ap₂ (λ (s n : ℕ). pressed s n c.args.x) (sym e) (sym ((told _ _ c.requires).1 e))

pub returns-in-4 : goal.returns-in-4
returns-in-4 c =
    let e = c.in-4.is in
    c.half-in-4-2.ensures ∙ ap (pressed 2 16) c.half-in-4.ensures ∙ press_quarter c.args.x ∙ ap₂ (λ (s n : ℕ). pressed s n c.args.x) (sym e) (sym ((told _ _ c.requires).2 e))

pub returns-in_default : goal.returns-in_default
returns-in_default c =
    let r = c.in_default.in_default-own.rest in
    let e = (told _ _ c.requires).3 r.0.0.1 r.0.1 r.1 in
    c.eighth.ensures ∙ ap₂ (λ (s n : ℕ). pressed s n c.args.x) (sym e.0) (sym e.1)
