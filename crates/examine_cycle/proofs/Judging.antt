-- What one word, one more word and one block decide.
use mathlib.Core.Path.{◌≡◌, sym, ap, ◌∙◌, subst}
use mathlib.Core.Bool.{Bool, true, false, true≢false}
use mathlib.Core.Logic.{◌⊎◌, inl, inr, ⊎_elim}
use mathlib.Core.List.{List}
use Prim.Native.Nat.{ℕ, suc, ◌+◌, ◌-◌, ◌*◌, ◌/◌, ◌≤◌, ◌<◌}
use native.Mathlib.Numerals.{add-one}
use native.Mathlib.Nat.{suc-mul}
use native.Mathlib.Omega.{arith}
use lib.Dec.{eqb}
use lib.ListN.{get_or}
use borrow.Author.Tests.{eq-eqb, eqb-true}
use Rattle.basics.specs.Decides.{Decides}
use Rattle.basics.proofs.Deciding.{holds, fails, via}
use Rattle.basics.proofs.Order.{same_or_not}
use Rattle.words.specs.Bits.{bit_at}
use Rattle.words.proofs.Counts.{lt_of}
use Rattle.classes.specs.Class.{IsClass, block_words, class_test}
use Rattle.layout.specs.declared.Geometry.{Geometry}
use Rattle.layout.specs.Geometry.{len, segment_words, most_blocks, blocks_in, mark_bit}
use Rattle.layout.specs.Mem.{Mem}
use Rattle.layout.proofs.Sizes.{marks_words, mark_word}
use Rattle.model.specs.Fields.{class}
use Rattle.model.specs.Records.{header_of, pointer_count}
use Rattle.model.specs.Consistent.{RecordOk}
use Rattle.model_laws.proofs.Apart.{class_of, field_inside}
use Rattle.model_laws.proofs.Blocks.{header_inside, header_is_class, header_head, same_bit}
use Rattle.classes.proofs.Filling.{two_words}
use Rattle.classes.proofs.Every.{class_passes}
use Rattle.examine_cycle.specs.declared.Asked.{Asked}
use Rattle.examine_cycle.specs.Judged.{Known, Fine, FineRun, RecordFine, BlockJudged, SegmentJudged}
use Rattle.layout.specs.Region as Region

-- ---- one word

pub bit_either : (P : Type 0) (b x : ℕ) → (P → ⊥) → b ≡ x → Decides (eqb b 1) (P ⊎ (x ≡ 1))
bit_either P b x d e = record { sound = λ t. inr (sym e ∙ eqb-true b 1 t); complete = λ q. eq-eqb b 1 (e ∙ ⊎_elim (λ p. absurd (d p)) (λ z. z) q) }

module _ (g : Geometry) (m : Mem) (cover : List ℕ) (w : ℕ) where
  pub fine_torn : (w ≡ 0 → ⊥) → (RecordOk g m (w - 1) → ⊥) → Decides false ((x : ℕ) → w ≡ suc x → Fine g m cover x)
  fine_torn f d = fails (λ h. d (h (w - 1) (omega arith)).0)

  pub fine_by : (w ≡ 0 → ⊥) → RecordOk g m (w - 1) → (k : ℕ) → k ≡ mark_bit (w - 1) → (r : Bool)
      → Decides r ((bit_at m.marks k ≡ 1) ⊎ (bit_at cover k ≡ 1)) → Decides r ((x : ℕ) → w ≡ suc x → Fine g m cover x)
  fine_by f ok k ek r d =
      let at : ℕ = w - 1 in
      let to : (bit_at m.marks k ≡ 1) ⊎ (bit_at cover k ≡ 1) → Fine g m cover at = λ q. (ok, subst (λ (z : ℕ). (bit_at m.marks z ≡ 1) ⊎ (bit_at cover z ≡ 1)) ek q) in
      via (λ q x e. let y : at ≡ x = omega arith in subst (Fine g m cover) y (to q)) (λ h. subst (λ (z : ℕ). (bit_at m.marks z ≡ 1) ⊎ (bit_at cover z ≡ 1)) (sym ek) (h at (omega arith)).1) d

-- ---- one word more

module _ (g : Geometry) (m : Mem) (cover ws : List ℕ) (from f w : ℕ) (ew : w ≡ get_or ws (from + f) 0) where
  pub run_more : FineRun g m cover ws from f → ((x : ℕ) → w ≡ suc x → Fine g m cover x) → FineRun g m cover ws from (f + 1)
  run_more a b x q = go (same_or_not q.index f)
    where
      go : (q.index ≡ f) ⊎ (q.index ≡ f → ⊥) → Fine g m cover x
      go (inl e) = b x (ew ∙ ap (λ (i : ℕ). get_or ws (from + i) 0) (sym e) ∙ q.names)
      go (inr e) = a x (record { index = q.index; within = lt_of (subst (λ (z : ℕ). q.index < z) (add-one f) q.within) e; names = q.names })

  pub run_one : (count : ℕ) → f < count → FineRun g m cover ws from count → (x : ℕ) → w ≡ suc x → Fine g m cover x
  run_one count l a x q = a x (record { index = f; within = l; names = sym ew ∙ q })

-- ---- one block

module _ (g : Geometry) (m : Mem) (s c b : ℕ) (ec : c ≡ class m s) (kc : IsClass c) (l : b < blocks_in g c) where
  pub bit_small : s < g.segments → mark_bit (header_of g s c b) < g.segments * most_blocks g
  bit_small h = let i = header_inside g c kc s b l h in let p = two_words c kc in let w = marks_words g g.segments in omega arith

  -- the record of its bit
  pub record_of : (x : ℕ) → RecordOk g m x → mark_bit x ≡ mark_bit (header_of g s c b) → x ≡ header_of g s c b
  record_of x ok e = same_bit g m x (header_of g s c b) (class_of g m x ok) (header_is_class g c kc s b l m (sym ec)) ok.aligned (header_head g c kc s b l m (sym ec)) e

  pub known_record : (bits : List ℕ) → Known g m bits → s < g.segments → bit_at bits (mark_bit (header_of g s c b)) ≡ 1 → RecordOk g m (header_of g s c b)
  known_record bits k h e = let q = k.records (mark_bit (header_of g s c b)) (bit_small h) e in subst (RecordOk g m) (record_of q.node q.ok q.here) q.ok

-- the pointers of a record lie in the heap
pub pointers_inside : (g : Geometry) (m : Mem) (at : ℕ) → RecordOk g m at → at + 1 + pointer_count m at ≤ len g Region.heap
pointers_inside g m at ok = let l = field_inside g m at ok (pointer_count m at) (omega arith) in omega arith

-- ---- what is asked of a record

pub ask : (g : Geometry) (m : Mem) (cover : List ℕ) (s at k : ℕ) (a b : Asked) (r : Bool) → a ≡ b → Decides r (RecordFine b g m cover s at k) → Decides r (RecordFine a g m cover s at k)
ask g m cover s at k a b r e d = subst (λ (x : Asked). Decides r (RecordFine x g m cover s at k)) (sym e) d

-- ---- the block at a word, k its bit

module _ (g : Geometry) (at k : ℕ) (ek : k ≡ mark_bit at) (l : at < len g Region.heap) where
  pub bit_within : k < g.segments * most_blocks g
  bit_within = let w = marks_words g g.segments in omega arith

  pub bit_room : (x : ℕ) → len g Region.marks ≤ x → k / 32 < x
  bit_room x r = let q = mark_word g k bit_within in omega arith

pub block_by : (g : Geometry) (m : Mem) (asked : Asked) (bits cover : List ℕ) (s at k : ℕ) → k ≡ mark_bit at → bit_at bits k ≡ 1
    → (r : Bool) → Decides r (RecordFine asked g m cover s at k) → Decides r (BlockJudged asked g m bits cover s at)
block_by g m asked bits cover s at k ek one r d =
    via (λ h e. h) (λ q. q (ap (bit_at bits) (sym ek) ∙ one)) (subst (λ (z : ℕ). Decides r (RecordFine asked g m cover s at z)) ek d)

-- ---- the blocks of a segment, one after the other: at is the word of block b

module _ (g : Geometry) (s c b at : ℕ) (ea : at ≡ header_of g s c b) (kc : IsClass c) (l : b < blocks_in g c) (h : s < g.segments) where
  pub block_ends : at + block_words c ≤ len g Region.heap
  block_ends = let i = header_inside g c kc s b l h in omega arith

  pub block_begins : at < len g Region.heap
  block_begins = let i = block_ends in let p = two_words c kc in omega arith

  pub known_at : (m : Mem) → c ≡ class m s → (bits : List ℕ) → Known g m bits → bit_at bits (mark_bit at) ≡ 1 → RecordOk g m at
  known_at m ec bits k e =
      subst (RecordOk g m) (sym ea) (known_record g m s c b ec kc l bits k h (ap (λ z. bit_at bits (mark_bit z)) (sym ea) ∙ e))

pub header_first : (g : Geometry) (s c at : ℕ) → at ≡ s * segment_words g + 0 → at ≡ header_of g s c 0
header_first g s c at e = omega arith

pub header_next : (g : Geometry) (s c b at w : ℕ) → at ≡ header_of g s c b → w ≡ block_words c → at + w ≡ header_of g s c (b + 1)
header_next g s c b at w ea ew = let x = suc-mul b (block_words c) in let y : (b + 1) * block_words c ≡ suc b * block_words c = ap (λ z. z * block_words c) (add-one b) in omega arith

pub any_by : (g : Geometry) (m : Mem) (asked : Asked) (bits cover : List ℕ) (s c : ℕ) → c ≡ class m s → IsClass c → (r : Bool)
    → Decides r ((b : ℕ) → b < blocks_in g c → BlockJudged asked g m bits cover s (header_of g s c b)) → Decides r (SegmentJudged asked g m bits cover s)
any_by g m asked bits cover s c ec kc r d =
    via (λ h k. h) (λ q. q (subst IsClass ec kc))
    (subst (λ (z : ℕ). Decides r ((b : ℕ) → b < blocks_in g z → BlockJudged asked g m bits cover s (header_of g s z b))) ec d)

pub any_none : (g : Geometry) (m : Mem) (asked : Asked) (bits cover : List ℕ) (s c : ℕ) → c ≡ class m s → class_test c ≡ false → Decides true (SegmentJudged asked g m bits cover s)
any_none g m asked bits cover s c ec f = holds (λ k. absurd (true≢false (sym (class_passes _ k) ∙ ap class_test (sym ec) ∙ f)))
