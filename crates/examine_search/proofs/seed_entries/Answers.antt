-- `examine_search::seed_entries` meets its contract.
use mathlib.Core.Path.{◌∙◌, subst}
use Prim.Native.Nat.{ℕ}
use Rattle.std.specs.Prelude.{Some, None}
use Rattle.layout.specs.Mem.{mem_of}
use Rattle.examine_search.specs.Graph.{SeedBelow}
use Rattle.examine_search.specs.Scratch.{state_of, Came}
use Rattle.examine_search.proofs.Steps.{start_valid}
use Rattle.examine_search.proofs.Rooting.{seeds_none, seeds_more, seeds_fail, seeds_all}
use native.Mathlib.Omega.{arith}
use Rattle.examine_search.proofs.seed_entries.Goals as goal

pub loop-i-init : goal.loop-i-init
loop-i-init c =
    let a = c.args in
    let m = mem_of a.g a.mem.now in
    (c.requires.0.room, seeds_none a.g m (state_of a.g a.scratch.now 0) (start_valid a.g m (SeedBelow m 0) a.scratch.now c.requires.1))

pub returns-in_err-top : goal.returns-in_err-top
returns-in_err-top c =
    let a = c.args in
    let m = mem_of a.g a.mem.now in
    let l = c.loop-i in
    let q = c.seed in
    let s = state_of a.g a.scratch.now 0 in
    rw c.from_residual.ensures
    (seeds_all a.g a.mem.now c.requires.0.sized s _ c.entry_count-i-end.ensures None q.new.scratch
    (seeds_fail a.g m s l.i _ c.loop-i-test.true q.new.scratch
    (seeds_more a.g m s l.i c.trace-w.result c.trace-w.ensures l.top None l.scratch q.new.scratch l.invariant.1 c.in_err-top.ensures)))

pub loop-i-preserved : goal.loop-i-preserved
loop-i-preserved c =
    let a = c.args in
    let m = mem_of a.g a.mem.now in
    let l = c.loop-i in
    let q = c.seed in (
      q.auto.scratch ∙ l.invariant.0,
      seeds_more a.g m (state_of a.g a.scratch.now 0) l.i c.trace-w.result c.trace-w.ensures l.top
          (Some c.in_ok-top.top) l.scratch q.new.scratch l.invariant.1 c.in_ok-top.ensures,
    )

pub returns : goal.returns
returns c =
    let a = c.args in
    let m = mem_of a.g a.mem.now in
    let l = c.loop-i in
    let s = state_of a.g a.scratch.now 0 in
    seeds_all a.g a.mem.now c.requires.0.sized s _ c.entry_count-i-end.ensures (Some l.top) l.scratch
    (subst (λ (k : ℕ). Came a.g m (SeedBelow m k) s (Some l.top) l.scratch) (omega (arith, c.loop-i-test.false, l.auto.i-end)) l.invariant.1)
