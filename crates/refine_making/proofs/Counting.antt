-- The two counts of the segment that a make took its block from: what was kept is kept, and one block more was handed out, as the place has passed
-- one 0 bit more.
use mathlib.Core.Path.{◌≡◌, refl, sym, ◌∙◌, ap, subst}
use mathlib.Core.Logic.{◌⊎◌, inl, inr, ⊎_elim}
use mathlib.Core.Bool.{Bool, true, false}
use mathlib.Core.List.{List}
use Prim.Native.Nat.{ℕ, ◌+◌, ◌-◌, ◌≤◌, ◌<◌}
use native.Mathlib.Omega.{arith}
use lib.Dec.{ltb}
use borrow.Author.Tests.{lt-ltb, le-ltb}
use Rattle.basics.specs.Pick.{pick}
use Rattle.basics.proofs.Order.{le_or_lt}
use Rattle.words.specs.Bits.{bit_at, ones_among}
use Rattle.words.proofs.Word.{one_of-not_zero}
use Rattle.words.proofs.Lists.{at_lt}
use Rattle.words.proofs.Counts.{among_change}
use Rattle.classes.specs.Class.{IsClass}
use Rattle.classes.specs.declared.RecordShape.{RecordShape}
use Rattle.layout.specs.declared.Geometry.{Geometry}
use Rattle.layout.specs.Geometry.{blocks_in}
use Rattle.layout.specs.Mem.{Mem}
use Rattle.model.specs.Fields.{tag, class, place}
use Rattle.model.specs.Segments.{bitmap, handed_bit}
use Rattle.model.specs.Consistent.{CountsOk}
use Rattle.refine_making.proofs.Request.{Request}
use Rattle.refine_making.proofs.Result.{StillHeld, NowFull, Result}
use Rattle.refine_making.proofs.Standing as standing
use Rattle.model.specs.Tag as Tag

-- a block before the place, and one behind it
module _ (g : Geometry) (x : Mem) (r i : ℕ) where
  before : i < place x r → handed_bit g x r i ≡ 1 - bit_at (bitmap g x r) i
  before l = ap (λ (t : Bool). pick t (1 - bit_at (bitmap g x r) i) 0) (lt-ltb i (place x r) l)

  behind : place x r ≤ i → handed_bit g x r i ≡ 0
  behind l = ap (λ (t : Bool). pick t (1 - bit_at (bitmap g x r) i) 0) (le-ltb i (place x r) l)

  -- a 1 bit is of a block that was kept
  of_kept : bit_at (bitmap g x r) i ≡ 1 → handed_bit g x r i ≡ 0
  of_kept e = go (ltb i (place x r))
    where
      go : (t : Bool) → pick t (1 - bit_at (bitmap g x r) i) 0 ≡ 0
      go true = omega arith
      go false = refl

module _ (g : Geometry) (m : Mem) (m' : Mem) (k d cl r b : ℕ) (shape : RecordShape) (q : Request g m k d cl r b shape) (a : Result g m m' k d cl r b shape)
    (o : CountsOk g m r) where
  abbrev bit : ℕ → ℕ
  bit = bit_at (bitmap g m r)

  abbrev n : ℕ
  n = blocks_in g cl

  same : (i : ℕ) → bit_at (bitmap g m' r) i ≡ bit i
  same i = ap (λ (ws : List ℕ). bit_at ws i) (standing.bitmap_same g m m' k d cl r b shape q a r)

  -- a bit that is not 0
  is_one_lem : (i : ℕ) → (bit i ≡ 0 → ⊥) → bit_at (bitmap g m' r) i ≡ 1
  is_one_lem i f = same i ∙ one_of-not_zero (bit i) (at_lt (bitmap g m r) i) f

  moved : b < place m' r
  moved = standing.place_there g m m' k d cl r b shape q a

  -- what lies behind the block is not passed, or has a 1 bit
  later : StillHeld g m m' k cl r b ⊎ NowFull g m m' k cl r b → (i : ℕ) → i < n → b < i → handed_bit g m' r i ≡ 0
  later (inl x) i l h = let e = x.recorded.place in behind g m' r i (omega arith)
  later (inr x) i l h = of_kept g m' r i (is_one_lem i (x.last i (omega arith) l))

  -- at another block nothing changes
  other : (i : ℕ) → i < n → (i ≡ b → ⊥) → handed_bit g m' r i ≡ handed_bit g m r i
  other i l f = ⊎_elim on (λ h. let u = moved in let v = q.after in before g m' r i (omega arith) ∙ ap (λ z. 1 - z) (same i) ∙ sym (before g m r i h)) (le_or_lt (place m r) i)
    where
      on : place m r ≤ i → handed_bit g m' r i ≡ handed_bit g m r i
      on h = ⊎_elim (λ u. later a.segment i l (omega arith)) (λ u. of_kept g m' r i (is_one_lem i (q.passed i h u))) (le_or_lt b i) ∙ sym (behind g m r i h)

  one_more : ones_among (handed_bit g m' r) n ≡ ones_among (handed_bit g m r) n + 1
  one_more =
      let c = among_change (handed_bit g m r) (handed_bit g m' r) n b q.below other in
      let was = behind g m r b q.after in
      let is = before g m' r b moved in
      let e = same b in
      let z = q.unused in
      omega arith

  not_free : tag m r ≡ Tag.free → ⊥
  not_free e = let z = q.is_held in omega arith

  of_class_lem : IsClass (class m r)
  of_class_lem = subst IsClass (sym q.of_class) q.is_class

  -- the blocks of the record's class are those of the class
  class_as : (x : Mem) → class x r ≡ cl → (f : ℕ → ℕ) → ones_among f (blocks_in g (class x r)) ≡ ones_among f n
  class_as x e f = ap (λ z. ones_among f (blocks_in g z)) e

  pub counts_there : CountsOk g m' r
  counts_there =
      let c = standing.class_there g m m' k d cl r b shape q a in
      record {
        free = λ e. let t = (standing.tag_there g m m' k d cl r b shape q a).0 in absurd (omega arith);
        kept =
            λ f i. a.counts.kept ∙ o.kept not_free of_class_lem ∙ class_as m q.of_class bit ∙ ap (λ (ws : List ℕ). ones_among (bit_at ws) n)
            (sym (standing.bitmap_same g m m' k d cl r b shape q a r)) ∙ sym (class_as m' c (bit_at (bitmap g m' r)));
        handed =
            λ f i. a.counts.handed ∙ ap (λ z. z + 1) (o.handed not_free of_class_lem ∙ class_as m q.of_class (handed_bit g m r)) ∙ sym one_more
            ∙ sym (class_as m' c (handed_bit g m' r));
      }
