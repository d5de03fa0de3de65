-- The memory that a make leaves agrees with the machine's state after the same make.
use mathlib.Core.Path.{◌≡◌, sym, ◌∙◌, ap, subst}
use mathlib.Core.Bool.{true, not, ◌&&◌}
use mathlib.Core.Logic.{◌⊎◌, inl, inr, ◌≢◌}
use mathlib.Core.Option.{Option, none, some}
use Prim.Native.Nat.{ℕ, ◌<◌}
use native.Mathlib.Omega.{arith}
use lib.Dec.{eqb}
use lib.ListN.{replicate}
use borrow.Author.Tests.{eq-eqb, eqb-true}
use Rattle.classes.specs.declared.RecordShape.{RecordShape}
use Rattle.classes.specs.Record.{pointer_count_of, value_count_of}
use Rattle.layout.specs.declared.Geometry.{Geometry}
use Rattle.layout.specs.Geometry.{root_count, segment_of, mark_bit}
use Rattle.layout.specs.Mem.{Mem, heap_word, Sizes}
use Rattle.theory.specs.Phases.{black}
use Rattle.theory.specs.Update.{upd, upd2}
use Rattle.theory.proofs.Updates.{upd_hit, upd_other, upd_hit₁, upd_miss₁}
use Rattle.theory.proofs.Agree.{Agree}
use Rattle.model.specs.Fields.{phase, acks, root, tag, class}
use Rattle.model.specs.Segments.{used_bit}
use Rattle.model.specs.Records.{record?, pointer_count, pointer, block_of, header_of}
use Rattle.model.specs.Reaching.{Live, is_marked}
use Rattle.classes.specs.Class.{IsClass}
use Rattle.model.specs.Consistent.{RecordOk}
use Rattle.refine_view.specs.Refines.{Ordered}
use Rattle.refine_view.specs.View.{view, values_of, is_head, is_used}
use Rattle.model_laws.proofs.Bools.{and_both, ne_not}
use Rattle.layout.proofs.Sizes.{segment_below}
use Rattle.model_laws.proofs.Blocks.{header_segment, header_is_class, header_head, same_bit}
use Rattle.model_laws.proofs.Segments.{in_range}
use Rattle.theory.proofs.Updates.{upd2_by}
use Rattle.refine_view.proofs.Invariants.{to_live, to_inv, used_of}
use Rattle.refine_making.proofs.Request.{Request}
use Rattle.refine_making.proofs.Result.{Result}
use Rattle.theory.specs.Machine as machine
use Rattle.theory.proofs.MakeKeeps as making
use Rattle.refine_making.proofs.Standing as standing
use Rattle.refine_making.proofs.Apart as apart
use Rattle.refine_making.proofs.Unused as unused
use Rattle.refine_making.proofs.Newborn as newborn
use Rattle.model.specs.Tag as Tag

module _ (g : Geometry) (m : Mem) (s : Sizes g m) (c : Ordered g m) (m' : Mem) (k d cl r b : ℕ) (shape : RecordShape) (q : Request g m k d cl r b shape) (a : Result g m m' k d cl r b shape) where
  abbrev h : ℕ
  h = header_of g r cl b

  abbrev pub after : machine.State
  after = machine.make (view g m) k d h (pointer_count_of shape) (replicate (value_count_of shape) 0)

  -- what is live afterwards is the new record or was live before
  pub old_or_new : (x : ℕ) → machine.Live after x → (Live m x × (x ≢ h)) ⊎ (x ≡ h)
  old_or_new x l =
      go
      (making.live_back (segment_of g) (view g m) (to_inv g m s c) k d h (pointer_count_of shape) (replicate (value_count_of shape) 0)
      (unused.not_used g m c k d cl r b shape q) (unused.not_collected g m c k d cl r b shape q) l)
    where
      go : machine.Live (view g m) x ⊎ (x ≡ h) → (Live m x × (x ≢ h)) ⊎ (x ≡ h)
      go (inl y) =
          inl (
            to_live g m s c y,
            making.live_other (segment_of g) (view g m) (to_inv g m s c) k d h (pointer_count_of shape) (replicate (value_count_of shape) 0)
                (unused.not_used g m c k d cl r b shape q) (unused.not_collected g m c k d cl r b shape q) x y,
          )
      go (inr e) = inr e

  -- ---- another record

  module _ (x : ℕ) (l : Live m x) (f : x ≢ h) where
    ok : RecordOk g m x
    ok = c.records x l

    pub of_class_lem : IsClass (class m (segment_of g x))
    of_class_lem = (c.segments (segment_of g x) (segment_below g x ok.inside)).classes ok.used

    pub header_on : heap_word m' x ≡ heap_word m x
    header_on = apart.header_same g m m' k d cl r b shape q a x ok of_class_lem f

    pub pointers_on : pointer_count m' x ≡ pointer_count m x
    pointers_on = apart.pointers_same g m m' k d cl r b shape q a x ok of_class_lem f

    fields_on : values_of m' x ≡ values_of m x
    fields_on = apart.fields_same g m m' k d cl r b shape q a x ok of_class_lem f

    pointer_on : (i : ℕ) → i < pointer_count m x → pointer m' x i ≡ pointer m x i
    pointer_on i y = apart.pointer_same g m m' k d cl r b shape q a x ok of_class_lem f i y

    pub used_on : is_used g m' x ≡ true
    used_on =
        let e : used_bit g m' (segment_of g x) (block_of g m' x) ≡ 1 =
        ap (used_bit g m' (segment_of g x)) (standing.block_same g m m' k d cl r b shape q a x)
        ∙ standing.used_on g m m' k d cl r b shape q a (segment_of g x) (block_of g m x) ok.block in
        and_both _ _ (ne_not _ _ (standing.tag_used g m m' k d cl r b shape q a (segment_of g x) ok.used)) (eq-eqb _ _ e)

    -- its bit is another
    bit_other : mark_bit x ≡ mark_bit h → ⊥
    bit_other e = f (same_bit g m x h of_class_lem (header_is_class g cl q.is_class r b q.below m q.of_class) ok.aligned (header_head g cl q.is_class r b q.below m q.of_class) e)

    mark_on : (is_head g m' x && is_marked g m' x) ≡ (is_head g m x && is_marked g m x)
    mark_on = standing.mark_same g m m' k d cl r b shape q a x (λ _. bit_other)

  -- ---- the machine's functions, changed at the new record

  module _ {A : Type 0} (old new : ℕ → A) (v : A) (there : new h ≡ v) where
    at_new : (x : ℕ) → x ≡ h → new x ≡ upd old h v x
    at_new x e = ap new e ∙ there ∙ sym (upd_hit old h v x e)

    at_old : (x : ℕ) → x ≢ h → new x ≡ old x → new x ≡ upd old h v x
    at_old x f e = e ∙ sym (upd_other old h v x f)

    -- where the words of other records stay
    changed : ((x : ℕ) → Live m x → x ≢ h → new x ≡ old x) → (x : ℕ) → machine.Live after x → new x ≡ upd old h v x
    changed same x l = go (old_or_new x l)
      where
        go : (Live m x × (x ≢ h)) ⊎ (x ≡ h) → new x ≡ upd old h v x
        go (inl y) = at_old x y.1 (same x y.0 y.1)
        go (inr e) = at_new x e

  -- ---- condemned segments

  fated_on : (x : ℕ) → eqb (tag m (segment_of g x)) Tag.condemned ≡ true → (is_head g m' x && is_marked g m' x) ≡ upd (λ at. is_head g m at && is_marked g m at) h (black (phase m) (acks m k)) x
  fated_on x e = standing.mark_same g m m' k d cl r b shape q a x other_bit ∙ sym (upd_other (λ at. is_head g m at && is_marked g m at) h (black (phase m) (acks m k)) x other)
    where
      four : tag m (segment_of g x) ≡ Tag.condemned
      four = eqb-true (tag m (segment_of g x)) 4 e

      away : segment_of g x ≡ r → ⊥
      away y = let z : tag m (segment_of g x) ≡ tag m r = ap (tag m) y in let w = q.is_held in let u = four in omega arith

      other : x ≢ h
      other y = away (ap (segment_of g) y ∙ header_segment g cl q.is_class r b q.below)

      of : IsClass (class m (segment_of g x))
      of = (c.segments (segment_of g x) (in_range g m s (segment_of g x) (λ z. let u = four in omega arith))).classes (λ z. let u = four in omega arith)

      other_bit : is_head g m x ≡ true → mark_bit x ≡ mark_bit h → ⊥
      other_bit w y = other (same_bit g m x h of (header_is_class g cl q.is_class r b q.below m q.of_class) (eqb-true _ _ w) (header_head g cl q.is_class r b q.below m q.of_class) y)

  -- ---- roots

  root_on : (i j : ℕ) → j < root_count → record? (root m' i j) ≡ upd2 (λ x y. record? (root m x y)) k d (some h) i j
  root_on i j l = upd2_by (λ x y. record? (root m x y)) k d (some h) i j (record? (root m' i j))
      (λ e f. ap (λ z. record? (root m' z j)) e ∙ ap (λ z. record? (root m' k z)) f ∙ ap record? a.named)
      (λ f. ap record? (standing.root_same g m m' k d cl r b shape q a i j l f))

  -- ---- pointers of live records

  pointer_at : (x f : ℕ) → machine.Live after x → f < upd (pointer_count m) h (pointer_count_of shape) x
      → record? (pointer m' x f) ≡ upd {A = ℕ → Option ℕ} (λ at f. record? (pointer m at f)) h (λ _. none) x f
  pointer_at x f l y = go (old_or_new x l)
    where
      go : (Live m x × (x ≢ h)) ⊎ (x ≡ h) → record? (pointer m' x f) ≡ upd {A = ℕ → Option ℕ} (λ at f. record? (pointer m at f)) h (λ _. none) x f
      go (inl z) =
          ap record? (pointer_on x z.0 z.1 f (subst (λ w. f < w) (upd_other (pointer_count m) h (pointer_count_of shape) x z.1) y))
          ∙ sym (upd_miss₁ (λ at f. record? (pointer m at f)) h (λ _. none) x f z.1)
      go (inr e) =
          ap (λ z. record? (pointer m' z f)) e
          ∙ ap record? (newborn.pointer_there g m c m' k d cl r b shape q a f (subst (λ w. f < w) (upd_hit (pointer_count m) h (pointer_count_of shape) x e) y))
          ∙ sym (upd_hit₁ (λ at f. record? (pointer m at f)) h (λ _. none) x f e)

  pub agree : Agree (segment_of g) after (view g m')
  agree = record {
    phase = standing.phase_same g m m' k d cl r b shape q a;
    stack = standing.stack_same g m m' k d cl r b shape q a;
    attached = λ i. ap (λ z. not (eqb z 0)) (standing.state_same g m m' k d cl r b shape q a i);
    inside = λ i. ap (λ z. eqb z 1) (standing.state_same g m m' k d cl r b shape q a i);
    acks = standing.acks_same g m m' k d cl r b shape q a;
    root = λ i j x l. root_on i j l;
    marked = λ t. changed (λ at. is_head g m at && is_marked g m at) (λ at. is_head g m' at && is_marked g m' at) (black (phase m) (acks m k)) (newborn.mark_there g m c m' k d cl r b shape q a t) mark_on;
    condemned_marks = fated_on;
    condemned = λ y. standing.tag_test g m m' k d cl r b shape q a 4 y (λ z. omega arith) (λ z. omega arith);
    pointer_count = changed (pointer_count m) (pointer_count m') (pointer_count_of shape) (newborn.pointers_there g m c m' k d cl r b shape q a) pointers_on;
    values = changed (values_of m) (values_of m') (replicate (value_count_of shape) 0) (newborn.fields_there g m c m' k d cl r b shape q a) fields_on;
    pointer = pointer_at;
    used = changed (is_used g m) (is_used g m') true (newborn.is_used-there g m c m' k d cl r b shape q a) (λ x l f. used_on x l f ∙ sym (used_of g m s c x l));
  }
