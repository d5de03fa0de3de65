-- What is judged by bits is what the examination is to decide, where the bits are those of the searches.
use mathlib.Core.Path.{◌≡◌, refl, sym, ap, ◌∙◌, subst}
use mathlib.Core.Logic.{inl, inr, ⊎_elim}
use mathlib.Core.Bool.{Bool, true, false}
use mathlib.Core.List.{List}
use Prim.Native.Nat.{ℕ, ◌*◌, ◌≤◌, ◌<◌}
use lib.ListN.{length, take, drop}
use Rattle.basics.specs.Decides.{Decides}
use Rattle.basics.proofs.Deciding.{holds, fails, via, refuted}
use Rattle.words.specs.Bits.{bit_at}
use Rattle.layout.specs.declared.Geometry.{Geometry}
use Rattle.layout.specs.Geometry.{len, most_blocks, segment_of, mark_bit, mutator_count}
use Rattle.layout.specs.Mem.{Mem}
use Rattle.layout.proofs.Sizes.{segment_below}
use Rattle.theory.specs.Reach.{root, next}
use Rattle.theory.proofs.Graph.{reach_map}
use Rattle.model.specs.Fields.{class}
use Rattle.model.specs.Records.{block_of, header_of}
use Rattle.model.specs.Reaching.{IsRoot, PointsTo, Live, Reached, Covered}
use Rattle.model.specs.Consistent.{RecordOk}
use Rattle.model_laws.proofs.Apart.{class_of}
use Rattle.model_laws.proofs.Blocks.{of_block, is_header, header_segment}
use Rattle.examine_search.specs.Found.{BitsOf, Finds, ByEntries}
use Rattle.examine_search.specs.Graph.{ByEntry}
use Rattle.examine_search.proofs.Steps.{placed}
use Rattle.examine_search.proofs.Covering.{covered_bits, bits_covered, edges_bits, bits_edges}
use Rattle.examine_cycle.specs.declared.Asked.{Asked}
use Rattle.examine_cycle.specs.declared.Asked.TheVariants.{Pointers, Marks}
use Rattle.examine_cycle.specs.Judged.{Known, Fine, RootsFine, RecordFine, Judged}
use Rattle.examine_cycle.proofs.Judging.{known_record}
use Rattle.examine_colours.specs.Coloured.{Room, Coloured, SweptOk}
use Rattle.examine_colours.proofs.Fields.{bit_front, front_room, resize}
use Rattle.layout.specs.Region as Region

module _ (g : Geometry) (m : Mem) (Set : ℕ → Type 0) where
  -- a search decides that every record of its set passes the test
  pub finds_decides : (r : Bool) (bits : List ℕ) → Finds g m Set r bits → Decides r ((at : ℕ) → Set at → RecordOk g m at)
  finds_decides true bits f = holds (f.good refl).passes
  finds_decides false bits f = fails (λ h. let b = f.bad refl in b.fails (h b.at b.member))

  pub known_of : (bits : List ℕ) → BitsOf g m Set bits → len g Region.marks ≤ length bits → Known g m bits
  known_of bits b l = record { room = l; records = b.records }

  -- the same bits elsewhere
  pub bits_as : (s t : List ℕ) → ((k : ℕ) → k < g.segments * most_blocks g → bit_at t k ≡ bit_at s k) → BitsOf g m Set s → BitsOf g m Set t
  bits_as s t e b = record {
    passes = b.passes;
    found = λ at q. e (mark_bit at) ((placed g m).small at (b.passes at q)) ∙ b.found at q;
    only = λ at ok q. b.only at ok (sym (e (mark_bit at) ((placed g m).small at ok)) ∙ q);
    records = λ k l q. b.records k l (sym (e k l) ∙ q);
  }

  -- what is judged of every block holds of a record of the set
  module _ (asked : Asked) (bits cover : List ℕ) (b : BitsOf g m Set bits) (j : Judged asked g m bits cover) where
    pub judged_at : (x : ℕ) → Set x → RecordFine asked g m cover (segment_of g x) x (mark_bit x)
    judged_at x q =
        let ok = b.passes x q in
        let k = class_of g m x ok in
        let e = is_header g m x k ok.aligned in
        subst (λ (z : ℕ). RecordFine asked g m cover (segment_of g x) z (mark_bit z)) (sym e)
        (j (segment_of g x) (segment_below g x ok.inside) k (block_of g m x) (of_block g m x k) (subst (λ (z : ℕ). bit_at bits (mark_bit z) ≡ 1) e (b.found x q)))

  -- what holds of every record of the set is judged of every block
  module _ (asked : Asked) (bits cover : List ℕ) (b : BitsOf g m Set bits) (room : len g Region.marks ≤ length bits)
      (h : (x : ℕ) → Set x → RecordFine asked g m cover (segment_of g x) x (mark_bit x)) where
    pub judged_all : Judged asked g m bits cover
    judged_all s l k i w e = subst (λ (z : ℕ). RecordFine asked g m cover z at (mark_bit at)) here (h at (b.only at ok e))
      where
        at : ℕ
        at = header_of g s (class m s) i

        ok : RecordOk g m at
        ok = known_record g m s (class m s) i refl k w bits (known_of bits b room) l e

        here : segment_of g at ≡ s
        here = header_segment g (class m s) k s i w

-- ---- the bits in front

pub bits_front : (g : Geometry) (m : Mem) (Set : ℕ → Type 0) (memory : List ℕ) (n : ℕ) (s : List ℕ) → Room g memory n s → (t u : List ℕ)
    → take n u ≡ take n t → BitsOf g m Set t → BitsOf g m Set (take n u)
bits_front g m Set memory n s r t u e b = bits_as g m Set t (take n u) (λ k l. ap (λ (z : List ℕ). bit_at z k) e ∙ sym (bit_front g memory n s r t k l)) b

-- ---- the tricolour invariant

module _ (g : Geometry) (m : Mem) where
  covered_live : {x : ℕ} → ByEntries g m x → Live m x
  covered_live p = reach_map first (λ x y r q. inl q.1) p
    where
      first : (x : ℕ) → ByEntry m x → Live m x
      first x (inl q) = root (inr q)
      first x (inr q) = next (root (inr q.1)) q.2

  pub cover_fails : (r : Bool) (bits : List ℕ) → Finds g m (ByEntries g m) r bits → r ≡ false → Coloured g m → ⊥
  cover_fails r bits f e c = let b = f.bad e in b.fails (c.records b.at (covered_live b.member))

  module _ (live cover : List ℕ) (a : BitsOf g m (Live m) live) (b : BitsOf g m (ByEntries g m) cover) (room : len g Region.marks ≤ length live) where
    covered_of : (x : ℕ) → Fine g m cover x → Covered g m x
    covered_of x (ok, inl q) = bits_covered g m x (inl q)
    covered_of x (ok, inr q) = bits_covered g m x (inr (b.only x ok q))

    fine_of : (x : ℕ) → RecordOk g m x → Covered g m x → Fine g m cover x
    fine_of x ok c = (ok, ⊎_elim inl (λ q. inr (b.found x q)) (covered_bits g m x c))

    pub roots_of : Coloured g m → (k : ℕ) → k < mutator_count → RootsFine g m cover k
    roots_of c k l d n x q =
        let r : IsRoot m x = record { mutator = k; index = q.index; few = l; within = q.within; attached = d; names = q.names } in
        fine_of x (a.passes x (root (inl r))) (c.tricolour.roots x r n)

    pub pointers_of : Coloured g m → Judged Pointers g m live cover
    pointers_of c =
        judged_all g m (Live m) Pointers live cover a room
        (λ x p k y q.
        let e : PointsTo m x y = record { field = q.index; within = q.within; names = q.names } in
        fine_of y (a.passes y (next p e)) (edges_bits g m c.tricolour.edges x y p k e))

    meant : ((k : ℕ) → k < mutator_count → RootsFine g m cover k) → Judged Pointers g m live cover → Coloured g m
    meant h j = record {
      records = a.passes;
      tricolour = record {
        roots = λ x r n. covered_of x (h r.mutator r.few r.attached n x (record { index = r.index; within = r.within; names = r.names }));
        edges = bits_edges g m (λ x y p k e. covered_of y (judged_at g m (Live m) Pointers live cover a j x p k y (record { index = e.field; within = e.within; names = e.names })));
      };
    }

    pub meaning : ((k : ℕ) → k < mutator_count → RootsFine g m cover k) → (r : Bool) → Decides r (Judged Pointers g m live cover) → Decides r (Coloured g m)
    meaning h r d = via (meant h) pointers_of d

  -- ---- sweep

  pub sweep_meaning : (bits cover : List ℕ) → BitsOf g m (Reached m) bits → len g Region.marks ≤ length bits → (r : Bool) → Decides r (Judged Marks g m bits cover) → Decides r (SweptOk g m)
  sweep_meaning bits cover a room r d = via
      (λ j. record { records = a.passes; entered = λ at p t. judged_at g m (Reached m) Marks bits cover a j at p t })
      (λ c. judged_all g m (Reached m) Marks bits cover a room (λ x p t. c.entered x p t))
      d

-- ---- the second search, beside the live bits in front

module _ (g : Geometry) (memory : List ℕ) (n : ℕ) (s : List ℕ) (rm : Room g memory n s) (m : Mem)
    (live : BitsOf g m (Live m) (take n s)) (t : List ℕ) (sz : length t ≡ length s) (ok : Bool)
    (f : Finds g m (ByEntries g m) ok (drop n t) × (take n t ≡ take n s)) where
  pub second_room : Room g memory n t
  second_room = resize g memory n s rm t sz

  second_live : BitsOf g m (Live m) (take n t)
  second_live = subst (BitsOf g m (Live m)) (sym f.1) live

  pub second_known : Known g m (take n t)
  second_known = known_of g m (Live m) (take n t) second_live (front_room g memory n t second_room)

  pub second_fails : ok ≡ false → Decides false (Coloured g m)
  second_fails e = fails (cover_fails g m ok (drop n t) f.0 e)

  pub second_roots : ok ≡ true → (r : Bool) → Decides r ((k : ℕ) → k < mutator_count → RootsFine g m (drop n t) k) → r ≡ false → Decides false (Coloured g m)
  second_roots e r d q = fails (λ c. refuted d q (roots_of g m (take n t) (drop n t) second_live (f.0.good e) (front_room g memory n t second_room) c))

  pub second_all : ok ≡ true → (r : Bool) → Decides r ((k : ℕ) → k < mutator_count → RootsFine g m (drop n t) k) → r ≡ true → (q : Bool)
      → Decides q (Judged Pointers g m (take n t) (drop n t)) → Decides q (Coloured g m)
  second_all e r d h q j = meaning g m (take n t) (drop n t) second_live (f.0.good e) (front_room g memory n t second_room) (d.sound h) q j
