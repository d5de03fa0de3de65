-- `examine_search::follow_roots` meets its contract.
use mathlib.Core.Path.{◌∙◌, subst}
use Prim.Native.Nat.{ℕ}
use Rattle.std.specs.Prelude.{Some}
use Rattle.layout.specs.Mem.{mem_of}
use Rattle.examine_search.specs.Graph.{RootBelow}
use Rattle.examine_search.specs.Scratch.{state_of, Came}
use Rattle.examine_search.proofs.Steps.{start_valid}
use Rattle.examine_search.proofs.Rooting.{roots_none, roots_more, roots_all}
use native.Mathlib.Omega.{arith}
use Rattle.examine_search.proofs.follow_roots.Goals as goal

pub loop-k-init : goal.loop-k-init
loop-k-init c =
    let m = mem_of c.args.g c.args.mem.now in
    (c.requires.0.room, roots_none c.args.g m (state_of c.args.g c.args.scratch.now 0) (start_valid c.args.g m (RootBelow m 0) c.args.scratch.now c.requires.1))

pub loop-k-preserved : goal.loop-k-preserved
loop-k-preserved c =
    let a = c.args in
    let m = mem_of a.g a.mem.now in
    let l = c.loop-k in (
      c.follow_mutator.auto.scratch ∙ l.invariant.0,
      roots_more a.g m (state_of a.g a.scratch.now 0) l.k l.top (Some c.in_ok-top.top) l.scratch
          c.follow_mutator.new.scratch l.invariant.1 c.in_ok-top.ensures,
    )

pub returns : goal.returns
returns c =
    let a = c.args in
    let m = mem_of a.g a.mem.now in
    let l = c.loop-k in
    roots_all a.g m (state_of a.g a.scratch.now 0) (Some l.top) l.scratch
    (subst (λ (k : ℕ). Came a.g m (RootBelow m k) (state_of a.g a.scratch.now 0) (Some l.top) l.scratch) (omega (arith, c.loop-k-test.false, l.auto.k-end)) l.invariant.1)
