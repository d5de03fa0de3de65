-- The stacks as an opening leaves them: every segment on the free stack, segment 0 on top, and nothing on a part stack.
use mathlib.Core.Path.{◌≡◌, refl, sym, ◌∙◌, ap, subst}
use mathlib.Core.Bool.{Bool, true, false}
use Prim.Native.Nat.{ℕ, zero, suc, ◌+◌, ◌-◌, ◌*◌, ◌<◌}
use native.Mathlib.Nat.{suc-mul}
use native.Mathlib.Omega.{arith}
use lib.ListN.{length, get_or, replicate, length-append, length-replicate, get_or-append}
use lib.Seq.{get_or-append-add}
use Rattle.basics.specs.Pick.{one_if}
use Rattle.layout.specs.declared.Geometry.{Geometry}
use Rattle.layout.specs.Geometry.{len}
use Rattle.layout.specs.Mem.{Mem, stack_word}
use Rattle.model.specs.Opening.{down_to0, open_stacks}
use Rattle.model.specs.Segments.{free_stack, count, entry}
use Rattle.model.specs.Consistent.{StackOk}
use Rattle.words.proofs.Counts.{only_ones}
use Rattle.words.proofs.Zeros.{zeros_at}
use Rattle.model_laws.proofs.Stacks.{stack_none}
use Rattle.layout.specs.Region as Region

length-down : (n : ℕ) → length (down_to0 n) ≡ n
unfolding down_to0
length-down zero = refl
length-down (suc n) = ap suc (length-down n)

down_at : (n i : ℕ) → i < n → get_or (down_to0 n) i 0 ≡ n - 1 - i
unfolding down_to0
down_at zero i h = absurd (omega arith)
down_at (suc n) zero h = omega arith
down_at (suc n) (suc i) h = down_at n i (omega arith) ∙ omega arith

pub length-open : (g : Geometry) → length (open_stacks g) ≡ len g Region.stacks
length-open g =
    let a = length-append (down_to0 g.segments) (replicate (len g Region.stacks - (1 + g.segments)) 0) in
    let b = length-down g.segments in
    let c = length-replicate {A = ℕ} (len g Region.stacks - (1 + g.segments)) 0 in
    omega arith

module _ (g : Geometry) (m : Mem) (e : m.stacks ≡ open_stacks g) where
  word : (i : ℕ) → stack_word m i ≡ get_or (open_stacks g) i 0
  word i = ap (λ l. get_or l i 0) e

  free_count : count g m free_stack ≡ g.segments
  free_count = let z : free_stack * (1 + g.segments) ≡ 0 = omega arith in ap (stack_word m) z ∙ word 0

  free_entry : (i : ℕ) → i < g.segments → entry g m free_stack i ≡ g.segments - 1 - i
  free_entry i h =
      let z : free_stack * (1 + g.segments) + 1 + i ≡ suc i = omega arith in
      let l = length-down g.segments in
      ap (stack_word m) z ∙ word (suc i) ∙ get_or-append (down_to0 g.segments) (replicate (len g Region.stacks - (1 + g.segments)) 0) 0 i (omega arith) ∙ down_at g.segments i h

  -- every segment passes the test
  pub free_open : (test : ℕ → Bool) → ((s : ℕ) → s < g.segments → test s ≡ true) → StackOk g m free_stack test
  free_open test h = record {
    number = free_count ∙ sym (only_ones (λ s. one_if (test s)) g.segments (λ i l. ap one_if (h i l)));
    members = λ i l. let k : i < g.segments = subst (λ z. i < z) free_count l in let q = free_entry i k in let x : entry g m free_stack i < g.segments = omega arith in (x, h _ x);
    once = λ i j l k q. let y : j < g.segments = subst (λ z. j < z) free_count k in let a = free_entry i (omega arith) in let b = free_entry j y in omega arith;
    all =
        λ s l q.
        let x : g.segments - 1 - s < g.segments = omega arith in
        (g.segments - 1 - s, subst (λ z. g.segments - 1 - s < z) (sym free_count) x, free_entry (g.segments - 1 - s) x ∙ omega arith);
  }

  part_count : (t : ℕ) → count g m (1 + t) ≡ 0
  part_count t =
      let l = length-down g.segments in
      let z : (1 + t) * (1 + g.segments) ≡ suc (length (down_to0 g.segments) + t * (1 + g.segments)) =
      (let q = suc-mul t (1 + g.segments) in let p : (1 + t) * (1 + g.segments) ≡ suc t * (1 + g.segments) = ap (λ x. x * (1 + g.segments)) (omega arith) in omega arith) in
      ap (stack_word m) z ∙ word (suc (length (down_to0 g.segments) + t * (1 + g.segments)))
      ∙ get_or-append-add (down_to0 g.segments) (replicate (len g Region.stacks - (1 + g.segments)) 0) (t * (1 + g.segments)) 0
      ∙ zeros_at (len g Region.stacks - (1 + g.segments)) (t * (1 + g.segments))

  -- no segment passes it
  pub part_open : (t : ℕ) (test : ℕ → Bool) → ((s : ℕ) → s < g.segments → test s ≡ false) → StackOk g m (1 + t) test
  part_open t test h = stack_none g m (1 + t) test h (part_count t)
