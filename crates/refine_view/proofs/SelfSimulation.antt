-- A call whose words match the machine's keeps consistency: consistent memory, seen as a machine, simulates itself.
use mathlib.Core.Path.{◌≡◌, refl, sym, ◌∙◌, ap, subst, fun_ext}
use mathlib.Core.Logic.{inl}
use mathlib.Core.Bool.{Bool, true, false}
use mathlib.Core.Option.{Option, none, some, map, some-injective}
use Prim.Native.Nat.{ℕ, ◌*◌, ◌<◌}
use native.Mathlib.Omega.{arith}
use lib.Dec.{ltb}
use borrow.Author.Tests.{lt-ltb, ltb-true}
use Rattle.basics.specs.Pick.{pick}
use Rattle.classes.specs.declared.RecordShape.{RecordShape}
use Rattle.classes.specs.Record.{of_counts}
use Rattle.layout.specs.declared.Geometry.{Geometry}
use Rattle.layout.specs.Geometry.{root_count, segment_words, segment_of}
use Rattle.layout.specs.Mem.{Mem, Sizes}
use Rattle.theory.specs.Reach.{root, next}
use Rattle.theory.specs.Calls.{Call, Answer, a_ok, shape_if, if_record, on_record, unless}
use Rattle.theory.specs.Unbounded.{Unbounded}
use Rattle.theory.proofs.Simulation.{Same}
use Rattle.theory.proofs.CallKeeps.{Coupled}
use Rattle.theory.proofs.Agree.{Agree}
use Rattle.theory.proofs.Invariant.{none_some}
use Rattle.model.specs.Fields.{phase, acks, cursor}
use Rattle.model.specs.Records.{record?, pointer_count, value_count, pointer, shape_of}
use Rattle.model.specs.Calls.{is_attached, is_inside, observe}
use Rattle.model.specs.Reaching.{Live}
use Rattle.refine_view.specs.View.{view, values_of}
use Rattle.refine_view.specs.Refines.{Ordered, Moves, Matches, Refines, refused_out, agrees, Steady}
use Rattle.model_laws.proofs.Tables.{length-tab}
use Rattle.refine_view.proofs.Seeing.{few_mutators}
use Rattle.refine_view.proofs.Invariants.{to_live, to_inv, structure_of}
use Rattle.model.specs.Consistent.{Behind}
use Rattle.theory.specs.Machine as machine
use Rattle.theory.specs.MachineCalls as calls
use Rattle.model.specs.Fields as fields

-- ---- what both show of themselves

pub face_same : (g : Geometry) (m : Mem) → calls.observe (view g m) ≡ observe m
face_same g m = λ i. record { attached = is_attached m; inside = is_inside m; shape = fun_ext (λ k. fun_ext (λ j. shape k j)) i }
  where
    of : (o : Option ℕ) → map (calls.shape_at (view g m)) o ≡ map (shape_of m) o
    of none = refl
    of (some at) = ap (λ n. some (of_counts (pointer_count m at) n)) (length-tab (value_count m at) _)

    shape : (k j : ℕ) → (calls.observe (view g m)).shape k j ≡ (observe m).shape k j
    shape k j = ap (shape_if (is_attached m k) (ltb j root_count)) (of (record? (fields.root m k j)))

-- ---- the memory agrees with itself

pub agree_self : (g : Geometry) (m : Mem) → Agree (segment_of g) (view g m) (view g m)
agree_self g m = record {
  phase = refl;
  stack = refl;
  attached = λ i. refl;
  inside = λ i. refl;
  acks = λ i. refl;
  root = λ i k a l. refl;
  marked = λ t b l. refl;
  condemned_marks = λ b e. refl;
  condemned = λ g. refl;
  pointer_count = λ b l. refl;
  values = λ b l. refl;
  pointer = λ b f l h. refl;
  used = λ b l. refl;
}

pub moves_self : (g : Geometry) (m : Mem) → Ordered g m → Moves g m m (view g m)
moves_self g m c = record { structure = structure_of g m c; occupied = λ u. u; behind = λ u. u; agree = agree_self g m; steady = λ s l e. (e, refl) }

-- the cursor stays, and no segment came among the condemned
pub behind_by : (g : Geometry) (m m' : Mem) → Steady g m m' → cursor m' ≡ cursor m → Behind g m → Behind g m'
behind_by g m m' t e u x l b q = u x l (subst (λ z. x < z) e b) (t x l q).0

-- a call that begins on the memory as it is, and is handed no block
pub matches_by : (g : Geometry) (m : Mem) (c : Call) (r : Answer × Mem) → calls.Permitted (segment_of g) 0 (view g m) c
    → r.0 ≡ (calls.act 0 (view g m) c).0 → Moves g m r.1 (calls.act 0 (view g m) c).1 → Matches g m c r
matches_by g m c r p e v = record { ready = m; prepared = agree_self g m; shows = refl; block = 0; permitted = p; answer = e; moves = v }

-- refused n where a test holds, and nothing changes
pub unless_refines : (out : ℕ → Bool) (g : Geometry) (m m' : Mem) (c : Call) (n : ℕ) → out n ≡ true → (b : Bool) → (b ≡ false → Matches g m c (a_ok, m')) → Refines out g m c (unless b n m m')
unless_refines out g m m' c n e true h = refused_out n e refl
unless_refines out g m m' c n e false h = agrees (h refl)

-- ---- a call on the record in a root

-- the record in a root that is wanted
wanted : (o : Option ℕ) (f : ℕ → RecordShape) (rest : RecordShape → ℕ) (a b : Bool) → a ≡ true → b ≡ true
    → if_record (shape_if a b (map f o)) rest ≡ 0 → (at : ℕ) × (o ≡ some at) × (rest (f at) ≡ 0)
unfolding if_record
wanted none f rest a b p q e = absurd (let z : 7 ≡ 0 = (rw (p, q) at e) in omega arith)
wanted (some at) f rest a b p q e = (at, refl, rw (p, q) at e)

-- both sides go on with the same record
pub on_record_lem : (g : Geometry) (m : Mem) (o : Option ℕ) (at : ℕ) → o ≡ some at → (K : ℕ → Answer × Mem) (L : ℕ → Answer × machine.State) → (K at).0 ≡ (L at).0 → Moves g m (K at).1 (L at).1
    → ((on_record o m K).0 ≡ (on_record o (view g m) L).0) × Moves g m (on_record o m K).1 (on_record o (view g m) L).1
on_record_lem g m o at e K L h v = subst (λ o. ((on_record o m K).0 ≡ (on_record o (view g m) L).0) × Moves g m (on_record o m K).1 (on_record o (view g m) L).1) (sym e) (h, v)

module _ (g : Geometry) (m : Mem) where
  -- the record in root i of mutator k, and what is asked of it
  pub record Wanted (k i : ℕ) (rest : RecordShape → ℕ) : Type 0 where
    pub at : ℕ
    pub is : record? (fields.root m k i) ≡ some at
    pub asked : rest (shape_of m at) ≡ 0

  pub wanted_in : (k i : ℕ) (rest : RecordShape → ℕ) → is_attached m k ≡ true → i < root_count → if_record ((observe m).shape k i) rest ≡ 0 → Wanted k i rest
  wanted_in k i rest a h e = let w = wanted (record? (fields.root m k i)) (shape_of m) rest (is_attached m k) (ltb i root_count) a (lt-ltb _ _ h) e in record { at = w.0; is = w.1; asked = w.2 }

-- ---- consistent memory as an unbounded heap: a record's position is the word of its header

module _ (g : Geometry) (m : Mem) where
  abbrev pub self : Unbounded
  self = record {
    count = g.segments * segment_words g;
    pointer_count = pointer_count m;
    values = values_of m;
    pointer = λ at f. record? (pointer m at f);
    attached = is_attached m;
    inside = is_inside m;
    root = λ k i. record? (fields.root m k i);
  }

  abbrev pub self_put : ℕ → Option ℕ
  self_put at = pick (ltb at (g.segments * segment_words g)) (some at) none

  put_some : (b r : ℕ) → self_put b ≡ some r → (b ≡ r) × (b < g.segments * segment_words g)
  put_some b r e = go (ltb b (g.segments * segment_words g)) refl e
    where
      go : (t : Bool) → ltb b (g.segments * segment_words g) ≡ t → pick t (some b) none ≡ some r → (b ≡ r) × (b < g.segments * segment_words g)
      go true h q = (some-injective b r q, ltb-true _ _ h)
      go false h q = none_some q

  module _ (s : Sizes g m) (c : Ordered g m) where
    put_live : (b : ℕ) → Live m b → self_put b ≡ some b
    put_live b l = rw (lt-ltb _ _ (c.records b l).inside) refl

    same_self : (v : Option ℕ) → ((b : ℕ) → v ≡ some b → Live m b) → Same self_put v v
    same_self none h = refl
    same_self (some b) h = ap some (put_live b (h b refl))

    pub self_good : Coupled (segment_of g) (λ _. Unit {0}) self_put (view g m) self
    self_good = record {
      inv = to_inv g m s c;
      sim = record {
        attached = λ i. refl;
        inside = λ i. refl;
        root = λ i k a l. same_self (record? (fields.root m i k)) (λ b e. to_live g m s c (root (inl (i, (k, a, l, e)))));
        rec = λ b p. record {
          id = b;
          is = put_live b (to_live g m s c p);
          pointer_count = refl;
          values = refl;
          pointer = λ f l. same_self (record? (pointer m b f)) (λ y e. to_live g m s c (next p (f, l, e)));
        };
        inj = λ b d r e h. (put_some b r e).0 ∙ sym (put_some d r h).0;
        old = λ b r e. subst (λ z. z < g.segments * segment_words g) (put_some b r e).0 (put_some b r e).1;
      };
      few = λ i a. few_mutators g m s i a;
      comp = record { live = λ b p k. tt; black = λ b p k. tt };
    }
