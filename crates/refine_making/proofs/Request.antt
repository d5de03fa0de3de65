-- What a make out of a held segment begins with: a mutator, its held segment and the first free block there.
use mathlib.Core.Path.{◌≡◌, refl, subst}
use mathlib.Core.Bool.{true}
use Prim.Native.Nat.{ℕ, suc, ◌+◌, ◌≤◌, ◌<◌}
use native.Mathlib.Omega.{arith}
use Rattle.std.specs.Prelude.{Ok, Err, Some, None}
use Rattle.words.specs.Bits.{bit_at}
use Rattle.words.proofs.FirstZero.{NoZero}
use Rattle.classes.specs.Class.{IsClass, block_words}
use Rattle.std.specs.Prelude.{Some}
use Rattle.classes.proofs.Smallest.{class_found, class_holds}
use Rattle.classes.specs.declared.RecordShape.{RecordShape}
use Rattle.classes.specs.Record.{field_count_of, class_of_record}
use Rattle.layout.specs.declared.Geometry.{Geometry}
use Rattle.layout.specs.Geometry.{mutator_count, root_count, blocks_in}
use Rattle.layout.specs.Mem.{Mem}
use Rattle.bitmap_search.specs.Scan.{Found}
use Rattle.bitmap_search.proofs.Scan.{IsNext, next_is}
use Rattle.model.specs.Fields.{absent, state, holding, tag, class, place, owner}
use Rattle.model.specs.Segments.{bitmap, free}
use Rattle.model.specs.Calls.{is_attached}
use Rattle.refine_view.specs.Refines.{Ordered}
use Rattle.model_laws.proofs.Bools.{not_eq}
use Rattle.model.specs.Tag as Tag

-- mutator k makes a record of a shape into its root d, out of block b of its segment r of class cl
pub record Request (g : Geometry) (m : Mem) (k d cl r b : ℕ) (shape : RecordShape) : Type 0 where
  pub few : k < mutator_count
  pub attached : state m k ≡ absent → ⊥
  pub within : d < root_count
  pub sized : class_of_record shape ≡ Some cl
  pub is_class : IsClass cl
  pub fits : 1 + field_count_of shape ≤ block_words cl
  pub inside : r < g.segments
  pub is_held : tag m r ≡ Tag.held
  pub of_class : class m r ≡ cl
  pub of_mutator : owner m r ≡ k
  pub holds : holding m k cl ≡ suc r
  pub after : place m r ≤ b
  pub below : b < blocks_in g cl
  pub unused : bit_at (bitmap g m r) b ≡ 0
  pub passed : NoZero (bit_at (bitmap g m r)) (place m r) b

-- the scan finds a block where there is one
found : (bit : ℕ → ℕ) (n p : ℕ) (f : Found) → IsNext bit n p f → (i : ℕ) → p ≤ i → i < n → bit i ≡ 0 → (b : ℕ) × (f ≡ Ok (Some b)) × (p ≤ b) × (b < n) × (bit b ≡ 0) × NoZero bit p b
found bit n p (Ok (Some b)) h i l k z = (b, refl, h.0, h.1, h.2, h.3)
found bit n p (Ok None) h i l k z = absurd (h i l k z)
found bit n p (Err _) h i l k z = absurd h

module _ (g : Geometry) (m : Mem) (c : Ordered g m) (k d cl r : ℕ) (shape : RecordShape) (few : k < mutator_count)
    (att : is_attached m k ≡ true) (within : d < root_count) (sized : class_of_record shape ≡ Some cl) (holds : holding m k cl ≡ suc r)
  where
    is_class_lem : IsClass cl
    is_class_lem = class_found (field_count_of shape) cl sized

    fit : 1 + field_count_of shape ≤ block_words cl
    fit = let l = class_holds (field_count_of shape) cl sized in omega arith

    -- a held segment has a free block at or after its place
    pub requested : (b : ℕ) × (free g m r cl (place m r) ≡ Ok (Some b)) × Request g m k d cl r b shape
    requested = go ((c.mutators k few).holds cl r is_class_lem holds)
      where
        go : (r < g.segments) × (tag m r ≡ Tag.held) × (class m r ≡ cl) × (owner m r ≡ k) → (b : ℕ) × (free g m r cl (place m r) ≡ Ok (Some b)) × Request g m k d cl r b shape
        go h = on ((c.segments r h.0).remains (let e = h.1 in omega arith) (let e = h.1 in omega arith))
          where
            on : (b : ℕ) × (place m r ≤ b) × (b < blocks_in g (class m r)) × (bit_at (bitmap g m r) b ≡ 0) → (b : ℕ) × (free g m r cl (place m r) ≡ Ok (Some b)) × Request g m k d cl r b shape
            on i =
                let f = found (bit_at (bitmap g m r)) (blocks_in g cl) (place m r) (free g m r cl (place m r))
                (next_is (bit_at (bitmap g m r)) (blocks_in g cl) (place m r)) i.0 i.1 (subst (λ z. i.0 < blocks_in g z) h.2 i.2) i.3 in (
                  f.0,
                  f.1,
                  record {
                    few = few;
                    attached = not_eq _ _ att;
                    within = within;
                    sized = sized;
                    is_class = is_class_lem;
                    fits = fit;
                    inside = h.0;
                    is_held = h.1;
                    of_class = h.2;
                    of_mutator = h.3;
                    holds = holds;
                    after = f.2;
                    below = f.3;
                    unused = f.4;
                    passed = f.5;
                  },
                )
