-- Every mutator's call over two memories of the same heap, the second in idle: refused 11 in a handshake, or answered as in idle.
use mathlib.Core.Path.{◌≡◌, refl, sym, ◌∙◌, ap, subst}
use mathlib.Core.Bool.{Bool, true, false, true≢false}
use mathlib.Core.Logic.{◌⊎◌, inl, inr, ⊎_elim}
use mathlib.Core.Option.{Option, none, some}
use mathlib.Core.List.{List}
use Prim.Native.Nat.{ℕ, zero, suc, ◌+◌, ◌*◌}
use native.Mathlib.Omega.{arith}
use lib.Dec.{ltb}
use lib.ListN.{get_or}
use borrow.Author.Tests.{ltb-true}
use Rattle.classes.specs.Record.{of_counts, pointer_count_of, class_of_record}
use Rattle.classes.specs.Class.{SizeClass}
use Rattle.std.specs.Prelude.{Some, None}
use Rattle.classes.proofs.Smallest.{class_found}
use Rattle.layout.specs.declared.Geometry.{Geometry}
use Rattle.layout.specs.Geometry.{mutator_count, mutator_words}
use Rattle.layout.specs.Mem.{Mem, Sizes, set_mutator, set_heap}
use Rattle.theory.specs.Phases.{Duty, nothing, both, old, idle, in_handshake, duty, owes}
use Rattle.theory.specs.Calls.{Call, c_attach, c_detach, c_check, c_leave, c_enter, c_spawn, c_make, c_load, c_store, c_copy, c_clear, c_put, c_get, c_same, c_shape, Answer, a_ok, a_num, a_flag, a_shape, a_no, refusal, refuse, on_record, unless, same_ref}
use Rattle.theory.proofs.Refusals.{require_ok, by_ok, root_ok}
use Rattle.model.specs.Fields.{phase, inside, outside, state_at, acks, root}
use Rattle.model.specs.Records.{record?, header_shape, pointer_count, pointer, value}
use Rattle.model.specs.Tracing.{push, barrier}
use Rattle.model.specs.Mutators.{given, acknowledged, attached, detached}
use Rattle.model.specs.Making.{made}
use Rattle.model.specs.Calls.{observe, of_class, act, exec}
use Rattle.model_laws.proofs.Pushes.{untouched_push}
use Rattle.basics.specs.Pick.{pick}
use Rattle.idle_twin.specs.SameHeap.{SameHeap, AsInIdle, not_now, same, EveryCall}
use Rattle.idle_twin.proofs.Same.{same_self, same_then, same_back, same_mutator, same_heap, leaves_untouched, leaves_acknowledged}
use Rattle.idle_twin.proofs.Entries.{same_root, same_shown, same_attached, same_detached}
use Rattle.idle_twin.proofs.Making.{Alike, alike_made}

-- what a call does that no number from 2 to 9 refuses
data Acted (g : Geometry) (m idle_mem : Mem) (c : Call) : Type 0 where
  later : in_handshake (phase m) ≡ true → act g m c ≡ (a_no 11, m) → Acted g m idle_mem c
  alike : Alike (act g m c) (act g idle_mem c) → Acted g m idle_mem c

-- ---- the barrier, and an acknowledgement

pub leaves_barrier : (g : Geometry) (d : Duty) (m : Mem) (v w : ℕ) → SameHeap m (barrier g d m (record? v) (record? w))
leaves_barrier g nothing m v w = same_self m
leaves_barrier g both m v w = same_then m (push g m (record? v)) _ (leaves_untouched m _ (untouched_push g m v)) (leaves_untouched (push g m (record? v)) _ (untouched_push g (push g m (record? v)) w))
leaves_barrier g old m v w = leaves_untouched m _ (untouched_push g m w)

-- in idle nothing is owed
idle_acknowledged : (g : Geometry) (m : Mem) (k : ℕ) → phase m ≡ idle → acknowledged g m k ≡ m
unfolding acknowledged
idle_acknowledged g m k i = ap (λ p. pick (owes p (acks m k)) (given g p m k) m) i

-- ---- outcomes that are alike

module _ (m idle_mem : Mem) (e : SameHeap m idle_mem) where
  -- one word of the mutators' entries, or of the heap, set to the same in both
  alike_mutator : (i v v' : ℕ) → v' ≡ v → Alike (a_ok, set_mutator m i v) (a_ok, set_mutator idle_mem i v')
  unfolding set_mutator
  alike_mutator i v v' q = record { answer = refl; memory = subst (λ w. SameHeap (set_mutator m i v) (set_mutator idle_mem i w)) (sym q) (same_mutator m idle_mem e i v) }

  alike_heap : (m₁ : Mem) → SameHeap m m₁ → (i v i' v' : ℕ) → i' ≡ i → v' ≡ v → Alike (a_ok, set_heap m₁ i v) (a_ok, set_heap idle_mem i' v')
  unfolding set_heap
  alike_heap m₁ a i v i' v' p q = record {
    answer = refl;
    memory =
        subst (λ x. SameHeap (set_heap m₁ i v) (set_heap idle_mem x v')) (sym p)
        (subst (λ w. SameHeap (set_heap m₁ i v) (set_heap idle_mem i w)) (sym q) (same_heap m₁ idle_mem (same_then m₁ m idle_mem (same_back m m₁ a) e) i v));
  }

  -- nothing changes
  alike_answer : (a a' : Answer) → a ≡ a' → Alike (a, m) (a', idle_mem)
  alike_answer a a' q = record { answer = q; memory = e }

  -- with the record in a root
  alike_record : (o : Option ℕ) (K K' : ℕ → Answer × Mem) → ((at : ℕ) → Alike (K at) (K' at)) → Alike (on_record o m K) (on_record o idle_mem K')
  alike_record none K K' f = alike_answer (a_no 7) (a_no 7) refl
  alike_record (some at) K K' f = f at

  alike_rooted : (k i : ℕ) → root idle_mem k i ≡ root m k i → (K K' : ℕ → Answer × Mem) → ((at : ℕ) → Alike (K at) (K' at))
      → Alike (on_record (record? (root m k i)) m K) (on_record (record? (root idle_mem k i)) idle_mem K')
  alike_rooted k i q K K' f = subst (λ w. Alike (on_record (record? (root m k i)) m K) (on_record (record? w) idle_mem K')) (sym q) (alike_record (record? (root m k i)) K K' f)

  -- refused 11 in a handshake
  alike_unless : (a b : Bool) → a ≡ false → b ≡ false → (m₁ m₁' : Mem) → SameHeap m₁ m₁' → Alike (unless a 11 m m₁) (unless b 11 idle_mem m₁')
  alike_unless true b p q m₁ m₁' x = absurd (true≢false p)
  alike_unless false true p q m₁ m₁' x = absurd (true≢false q)
  alike_unless false false p q m₁ m₁' x = record { answer = refl; memory = x }

  -- ---- words of the heap read

  word_same : (i : ℕ) → get_or idle_mem.heap i 0 ≡ get_or m.heap i 0
  word_same i = ap (λ (l : List ℕ). get_or l i 0) e.heap

  count_same : (at : ℕ) → pointer_count idle_mem at ≡ pointer_count m at
  count_same at = ap (λ w. pointer_count_of (header_shape w)) (word_same at)

  value_same : (at f : ℕ) → value idle_mem at f ≡ value m at f
  value_same at f = ap (λ n. get_or idle_mem.heap (at + 1 + n + f) 0) (count_same at) ∙ word_same (at + 1 + pointer_count m at + f)

-- ---- each call

module _ (g : Geometry) (m idle_mem : Mem) (s : Sizes g m) (e : SameHeap m idle_mem) (i : phase idle_mem ≡ idle) where
  in_idle : in_handshake (phase idle_mem) ≡ false
  in_idle = ap in_handshake i

  -- attach, spawn and detach
  in_phase : (m₁ m₁' : Mem) → SameHeap m₁ m₁'
      → ((in_handshake (phase m) ≡ true) × (unless (in_handshake (phase m)) 11 m m₁ ≡ (a_no 11, m)))
      ⊎ Alike (unless (in_handshake (phase m)) 11 m m₁) (unless (in_handshake (phase idle_mem)) 11 idle_mem m₁')
  in_phase m₁ m₁' x = go (in_handshake (phase m)) refl
    where
      go : (b : Bool) → in_handshake (phase m) ≡ b
          → ((in_handshake (phase m) ≡ true) × (unless (in_handshake (phase m)) 11 m m₁ ≡ (a_no 11, m)))
          ⊎ Alike (unless (in_handshake (phase m)) 11 m m₁) (unless (in_handshake (phase idle_mem)) 11 idle_mem m₁')
      go true q = inl (q, ap (λ b. unless b 11 m m₁) q)
      go false q = inr (alike_unless m idle_mem e (in_handshake (phase m)) (in_handshake (phase idle_mem)) q in_idle m₁ m₁' x)

  acted_attach : (k : ℕ) → refusal (observe m) (c_attach k) ≡ 0 → Acted g m idle_mem (c_attach k)
  unfolding act
  acted_attach k x =
      let few = ltb-true _ _ (require_ok (ltb k mutator_count) 2 _ (omega arith) x).0 in
      ⊎_elim (λ h. later h.0 h.1) (λ h. alike h) (in_phase (attached m k 0) (attached idle_mem k 0) (same_attached m idle_mem e s.mutators k few 0))

  acted_spawn : (k p j : ℕ) → refusal (observe m) (c_spawn k p j) ≡ 0 → Acted g m idle_mem (c_spawn k p j)
  unfolding act
  acted_spawn k p j x =
      let a = require_ok (ltb k mutator_count) 2 _ (omega arith) x in
      let b = require_ok (ltb p mutator_count) 2 _ (omega arith) a.1 in
      let c = require_ok _ 3 _ (omega arith) b.1 in
      let d = require_ok _ 4 _ (omega arith) c.1 in
      let f = require_ok _ 5 _ (omega arith) d.1 in
      let r : root idle_mem p j ≡ root m p j = same_root m idle_mem e p j (root_ok j _ f.1).0 in
      let h : SameHeap (attached m k (root m p j)) (attached idle_mem k (root idle_mem p j)) =
      subst (λ v. SameHeap (attached m k (root m p j)) (attached idle_mem k v)) (sym r) (same_attached m idle_mem e s.mutators k (ltb-true _ _ a.0) (root m p j)) in
      ⊎_elim (λ h. later h.0 h.1) (λ h. alike h) (in_phase (attached m k (root m p j)) (attached idle_mem k (root idle_mem p j)) h)

  acted_detach : (k : ℕ) → refusal (observe m) (c_detach k) ≡ 0 → Acted g m idle_mem (c_detach k)
  unfolding act
  acted_detach k x =
      let few = (by_ok (observe m) k _ x).0 in
      ⊎_elim (λ h. later h.0 h.1) (λ h. alike h) (in_phase (detached g m k) (detached g idle_mem k) (same_detached g k few m idle_mem e s.mutators))

  -- check and leave: an acknowledgement changes nothing but what may differ, and in idle nothing
  same_acknowledged : (k : ℕ) → SameHeap (acknowledged g m k) (acknowledged g idle_mem k)
  same_acknowledged k = rw (idle_acknowledged g idle_mem k i) (same_then (acknowledged g m k) m idle_mem (same_back m (acknowledged g m k) (leaves_acknowledged g m k)) e)

  alike_check : (k : ℕ) → Alike (a_ok, acknowledged g m k) (a_ok, acknowledged g idle_mem k)
  alike_check k = record { answer = refl; memory = same_acknowledged k }

  alike_leave : (k n v : ℕ) → Alike (a_ok, set_mutator (acknowledged g m k) n v) (a_ok, set_mutator (acknowledged g idle_mem k) n v)
  unfolding set_mutator
  alike_leave k n v = record { answer = refl; memory = same_mutator _ _ (same_acknowledged k) n v }

  -- make
  alike_class : (k d p n : ℕ) (o : SizeClass) → class_of_record (of_counts p n) ≡ o
      → Alike (of_class m o (λ c. made g m k d c (of_counts p n))) (of_class idle_mem o (λ c. made g idle_mem k d c (of_counts p n)))
  alike_class k d p n (Some c) q = alike_made g k d c (of_counts p n) m idle_mem e (class_found (p + n) c q)
  alike_class k d p n None q = alike_answer m idle_mem e (a_no 9) (a_no 9) refl

  -- store: in idle no barrier
  alike_store : (k j f at : ℕ) → root idle_mem k j ≡ root m k j
      → Alike (a_ok, set_heap (barrier g (duty (phase m) (acks m k)) m (record? (root m k j)) (record? (pointer m at f))) (at + 1 + f) (root m k j))
      (a_ok, set_heap (barrier g (duty (phase idle_mem) (acks idle_mem k)) idle_mem (record? (root idle_mem k j)) (record? (pointer idle_mem at f))) (at + 1 + f) (root idle_mem k j))
  alike_store k j f at q =
      let b = leaves_barrier g (duty (phase m) (acks m k)) m (root m k j) (pointer m at f) in
      subst
      (λ x. Alike
      (a_ok, set_heap (barrier g (duty (phase m) (acks m k)) m (record? (root m k j)) (record? (pointer m at f))) (at + 1 + f) (root m k j))
      (a_ok, set_heap (barrier g (duty x (acks idle_mem k)) idle_mem (record? (root idle_mem k j)) (record? (pointer idle_mem at f))) (at + 1 + f) (root idle_mem k j)))
      (sym i)
      (alike_heap m idle_mem e _ b (at + 1 + f) (root m k j) (at + 1 + f) (root idle_mem k j) refl q)

  acted : (c : Call) → refusal (observe m) c ≡ 0 → Acted g m idle_mem c
  unfolding act
  acted (c_attach k) x = acted_attach k x
  acted (c_spawn k p j) x = acted_spawn k p j x
  acted (c_detach k) x = acted_detach k x
  acted (c_check k) x = alike (alike_check k)
  acted (c_leave k) x = alike (alike_leave k (k * mutator_words + state_at) outside)
  acted (c_enter k) x = alike (alike_mutator m idle_mem e (k * mutator_words + state_at) inside inside refl)
  acted (c_make k d p n) x = alike (alike_class k d p n (class_of_record (of_counts p n)) refl)
  acted (c_load k d j f) x =
      let r = (root_ok j _ (root_ok d _ (by_ok (observe m) k _ x).3).1).0 in
      alike
      (alike_rooted m idle_mem e k j (same_root m idle_mem e k j r) _ _
      (λ at. alike_mutator m idle_mem e (k * mutator_words + d) (pointer m at f) (pointer idle_mem at f) (word_same m idle_mem e (at + 1 + f))))
  acted (c_store k j f t) x =
      let a = root_ok j _ (by_ok (observe m) k _ x).3 in
      let b = root_ok t _ a.1 in
      alike (alike_rooted m idle_mem e k j (same_root m idle_mem e k j a.0) _ _ (λ at. alike_store k t f at (same_root m idle_mem e k t b.0)))
  acted (c_copy k d j) x =
      let r = (root_ok j _ (root_ok d _ (by_ok (observe m) k _ x).3).1).0 in
      alike (alike_mutator m idle_mem e (k * mutator_words + d) (root m k j) (root idle_mem k j) (same_root m idle_mem e k j r))
  acted (c_clear k d) x = alike (alike_mutator m idle_mem e (k * mutator_words + d) 0 0 refl)
  acted (c_put k j f v) x =
      let r = (root_ok j _ (by_ok (observe m) k _ x).3).0 in
      alike (alike_rooted m idle_mem e k j (same_root m idle_mem e k j r) _ _ (λ at. alike_heap m idle_mem e m (same_self m) _ v _ v (ap (λ n. at + 1 + n + f) (count_same m idle_mem e at)) refl))
  acted (c_get k j f) x =
      let r = (root_ok j _ (by_ok (observe m) k _ x).3).0 in
      alike (alike_rooted m idle_mem e k j (same_root m idle_mem e k j r) _ _ (λ at. alike_answer m idle_mem e _ _ (ap a_num (sym (value_same m idle_mem e at f)))))
  acted (c_same k j t) x =
      let a = root_ok j _ (by_ok (observe m) k _ x).3 in
      let b = root_ok t _ a.1 in
      alike (alike_answer m idle_mem e _ _ (λ z. a_flag (same_ref (record? (sym (same_root m idle_mem e k j a.0) z)) (record? (sym (same_root m idle_mem e k t b.0) z)))))
  acted (c_shape k j) x =
      let r = (root_ok j _ (by_ok (observe m) k _ x).3).0 in
      alike (alike_rooted m idle_mem e k j (same_root m idle_mem e k j r) _ _ (λ at. alike_answer m idle_mem e _ _ (ap (λ w. a_shape (header_shape w)) (sym (word_same m idle_mem e at)))))

  -- ---- "The lowest number that applies is given."

  executed : (c : Call) (n : ℕ) → refusal (observe m) c ≡ n → refusal (observe idle_mem) c ≡ n → AsInIdle g m idle_mem c
  unfolding exec
  executed c zero x y = go (acted c x)
    where
      mine : exec g m c ≡ act g m c
      mine = ap (λ n. refuse n m (act g m c)) x

      its : exec g idle_mem c ≡ act g idle_mem c
      its = ap (λ n. refuse n idle_mem (act g idle_mem c)) y

      go : Acted g m idle_mem c → AsInIdle g m idle_mem c
      go (later h q) = not_now h (mine ∙ q)
      go (alike a) =
          same (ap (λ r. r.0) mine ∙ a.answer ∙ sym (ap (λ r. r.0) its))
          (subst (λ r. SameHeap (exec g m c).1 r.1) (sym its) (subst (λ r. SameHeap r.1 (act g idle_mem c).1) (sym mine) a.memory))
  executed c (suc n) x y =
      let mine : exec g m c ≡ (a_no (suc n), m) = ap (λ n. refuse n m (act g m c)) x in
      let its : exec g idle_mem c ≡ (a_no (suc n), idle_mem) = ap (λ n. refuse n idle_mem (act g idle_mem c)) y in
      same (ap (λ r. r.0) mine ∙ sym (ap (λ r. r.0) its))
      (subst (λ r. SameHeap (exec g m c).1 r.1) (sym its) (subst (λ r. SameHeap r.1 idle_mem) (sym mine) e))

pub every_call : EveryCall
every_call g m idle_mem s e i c = executed g m idle_mem s e i c (refusal (observe m) c) refl (ap (λ o. refusal o c) (same_shown m idle_mem e))
