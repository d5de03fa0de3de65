-- How the machine's state stands for the unbounded heap's, and that each operation keeps it so.
use mathlib.Core.Path.{◌≡◌, refl, ap, sym, ◌∙◌, subst}
use mathlib.Core.Logic.{◌⊎◌, inl, inr, ◌≢◌}
use mathlib.Core.Bool.{Bool, true, false}
use mathlib.Core.Option.{Option, none, some, some-injective, map}
use mathlib.Core.List.{List}
use Prim.Native.Nat.{ℕ, suc, ◌<◌}
use native.Mathlib.Omega.{arith}
use native.Mathlib.Decide.{ℕ_discrete}
use Rattle.theory.proofs.CycleKeeps.{attach_live, detach_live}
use Rattle.theory.proofs.Graph.{reach_ind}
use Rattle.theory.proofs.Invariant.{Inv, reached_live, root_live}
use Rattle.theory.specs.Machine.{set_values, State, Holds, Root, Points, Live, Reached, set_root, store, make, attach, detach, set_inside}
use Rattle.theory.proofs.Updates.{upd_cases, upd_same, upd_other, upd_hit, upd_hit₁, upd_miss₁}
use Rattle.theory.specs.Phases.{Phase, sync1, sync2, old}
use Rattle.theory.specs.Reach.{root, next}
use Rattle.theory.specs.Unbounded.{Unbounded, u_set_root, u_store, u_make, u_attach, u_detach, u_set_values, u_set_inside, URoot, UPoints, UReached}
use Rattle.theory.specs.Update.{if_dec, upd, upd2}
use Rattle.layout.specs.Geometry.{root_count}
use Rattle.theory.proofs.StoreKeeps as Store
use Rattle.theory.proofs.MakeKeeps as Make

-- a machine's value and the unbounded heap's: both nil, or the block's last record is the one named
abbrev pub Same : (ℕ → Option ℕ) → Option ℕ → Option ℕ → Type 0
Same put v w = map put v ≡ map some w

pub record SameRecord (put : ℕ → Option ℕ) (st : State) (un : Unbounded) (b : ℕ) : Type 0 where
  pub id : ℕ
  pub is : put b ≡ some id
  pub pointer_count : st.pointer_count b ≡ un.pointer_count id
  pub values : st.values b ≡ un.values id
  pub pointer : (f : ℕ) → f < st.pointer_count b → Same put (st.pointer b f) (un.pointer id f)

pub record Simulates (put : ℕ → Option ℕ) (st : State) (un : Unbounded) : Type 0 where
  pub attached : (i : ℕ) → st.attached i ≡ un.attached i
  pub inside : (i : ℕ) → st.inside i ≡ un.inside i
  pub root : (i k : ℕ) → st.attached i ≡ true → k < root_count → Same put (st.root i k) (un.root i k)
  pub rec : (b : ℕ) → Live st b → SameRecord put st un b
  pub inj : (b c r : ℕ) → put b ≡ some r → put c ≡ some r → b ≡ c
  pub old : (b r : ℕ) → put b ≡ some r → r < un.count

-- ---- values

pub same_some : (put : ℕ → Option ℕ) (v w : Option ℕ) (b : ℕ) → Same put v w → v ≡ some b → (r : ℕ) × (w ≡ some r) × (put b ≡ some r)
same_some put v (some r) b h e = (r, refl, cc)
same_some put v none b h e = let z : ◌≡◌ {A = ℕ} 0 1 = cc in absurd (omega arith)

pub same_back : (put : ℕ → Option ℕ) (v w : Option ℕ) (r : ℕ) → Same put v w → w ≡ some r → (b : ℕ) × (v ≡ some b) × (put b ≡ some r)
same_back put (some b) w r h e = (b, refl, cc)
same_back put none w r h e = let z : ◌≡◌ {A = ℕ} 0 1 = cc in absurd (omega arith)

pub same_put : (put : ℕ → Option ℕ) (c : ℕ) (q : Option ℕ) (v w : Option ℕ) → ((b : ℕ) → v ≡ some b → b ≢ c) → Same put v w → Same (upd put c q) v w
same_put put c q none w n h = h
same_put put c q (some b) w n h = ap some (upd_other put c q b (n b refl)) ∙ h

-- ---- point updates, in step

pub upd_rel : {A B : Type 0} (P : A → B → Type 0) (f : ℕ → A) (g : ℕ → B) (k : ℕ) (v : A) (w : B) (x : ℕ) → P v w → (x ≢ k → P (f x) (g x)) → P (upd f k v x) (upd g k w x)
unfolding upd
upd_rel {A} {B} P f g k v w x p q = go (ℕ_discrete x k)
  where
    go : (d : Dec (x ≡ k)) → P (if_dec d v (f x)) (if_dec d w (g x))
    go (yes e) = p
    go (no n) = q n

pub upd2_rel : {A B : Type 0} (P : A → B → Type 0) (f : ℕ → ℕ → A) (g : ℕ → ℕ → B) (i k : ℕ) (v : A) (w : B) (x y : ℕ) → P v w → P (f x y) (g x y) → P (upd2 f i k v x y) (upd2 g i k w x y)
upd2_rel {A} {B} P f g i k v w x y p q = go (ℕ_discrete x i)
  where
    go : Dec (x ≡ i) → P (upd2 f i k v x y) (upd2 g i k w x y)
    go (yes e) =
        rw e
        (subst (λ (h : ℕ → A). P (h y) (upd2 g i k w i y)) (sym (upd_same f i (upd (f i) k v)))
        (subst (λ (h : ℕ → B). P (upd (f i) k v y) (h y)) (sym (upd_same g i (upd (g i) k w))) (upd_rel P (f i) (g i) k v w y p (λ _. subst (λ z. P (f z y) (g z y)) e q))))
    go (no n) = subst (λ (h : ℕ → A). P (h y) (upd2 g i k w x y)) (sym (upd_other f i (upd (f i) k v) x n)) (subst (λ (h : ℕ → B). P (f x y) (h y)) (sym (upd_other g i (upd (g i) k w) x n)) q)

-- ---- reached is reached

module _ (put : ℕ → Option ℕ) (st : State) (un : Unbounded) (s : Simulates put st un) where
  root_up : (i b : ℕ) → Holds st i b → (r : ℕ) × (put b ≡ some r) × UReached un r
  root_up i b h = let v = same_some put (st.root i h.0) (un.root i h.0) b (s.root i h.0 h.1 h.2) h.3 in
      (v.0, v.2, root (i, h.0, sym (s.attached i) ∙ h.1, h.2, v.1))

  edge_up : (x y r : ℕ) → Live st x → put x ≡ some r → Points st x y → (q : ℕ) × (put y ≡ some q) × UPoints un r q
  edge_up x y r l e d =
      let c = s.rec x l in
      let v = same_some put (st.pointer x d.0) (un.pointer c.id d.0) y (c.pointer d.0 d.1) d.2 in
      let q : c.id ≡ r = some-injective c.id r (sym c.is ∙ e) in
      (v.0, v.2, (d.0, subst (λ z. d.0 < un.pointer_count z) q (subst (λ z. d.0 < z) c.pointer_count d.1), ap (λ z. un.pointer z d.0) (sym q) ∙ v.1))

  pub reach_up : {b : ℕ} → Reached st b → (r : ℕ) × (put b ≡ some r) × UReached un r
  reach_up p = reach_ind (λ b. (r : ℕ) × (put b ≡ some r) × UReached un r) (λ b h. root_up h.0 b h.1) step p
    where
      step : (x y : ℕ) → Reached st x → (r : ℕ) × (put x ≡ some r) × UReached un r → Points st x y → (r : ℕ) × (put y ≡ some r) × UReached un r
      step x y q h e = let u = edge_up x y h.0 (reached_live st q) h.1 e in (u.0, u.1, next h.2 u.2)

  pub reach_down : {r : ℕ} → UReached un r → (b : ℕ) × (put b ≡ some r) × Reached st b
  reach_down p = reach_ind (λ r. (b : ℕ) × (put b ≡ some r) × Reached st b) base step p
    where
      base : (r : ℕ) → URoot un r → (b : ℕ) × (put b ≡ some r) × Reached st b
      base r h = let o = s.attached h.0 ∙ h.2 in let v = same_back put (st.root h.0 h.1) (un.root h.0 h.1) r (s.root h.0 h.1 o h.3) h.4 in
          (v.0, v.2, root (h.0, (h.1, o, h.3, v.1)))

      step : (x y : ℕ) → UReached un x → (b : ℕ) × (put b ≡ some x) × Reached st b → UPoints un x y → (b : ℕ) × (put b ≡ some y) × Reached st b
      step x y q h e =
          let c = s.rec h.0 (reached_live st h.2) in
          let k : c.id ≡ x = some-injective c.id x (sym c.is ∙ h.1) in
          let l : e.0 < st.pointer_count h.0 = subst (λ z. e.0 < z) (sym c.pointer_count) (subst (λ z. e.0 < un.pointer_count z) (sym k) e.1) in
          let v = same_back put (st.pointer h.0 e.0) (un.pointer c.id e.0) y (c.pointer e.0 l) (ap (λ z. un.pointer z e.0) k ∙ e.2) in
          (v.0, v.2, next h.2 (e.0, l, v.1))

-- ---- the operations keep the simulation

-- whatever leaves roots and pointers alone, and makes nothing live
abbrev pub gc : State → (ℕ → Bool) → (ℕ → Bool) → (ℕ → Bool) → List ℕ → (ℕ → ℕ) → Phase → State
gc st u d m l a p = record {
  pointer_count = st.pointer_count;
  values = st.values;
  pointer = st.pointer;
  used = u;
  condemned = d;
  marked = m;
  stack = l;
  attached = st.attached;
  inside = st.inside;
  acks = a;
  root = st.root;
  phase = p;
}

pub gc_sim : (put : ℕ → Option ℕ) (st : State) (un : Unbounded) (s : Simulates put st un) (u d m : ℕ → Bool) (l : List ℕ) (a : ℕ → ℕ) (p : Phase)
    → ((b : ℕ) → Live (gc st u d m l a p) b → Live st b) → Simulates put (gc st u d m l a p) un
gc_sim put st un s u d m l a p back = record {
  attached = s.attached;
  inside = s.inside;
  root = s.root;
  rec = λ b h. let c = s.rec b (back b h) in record { id = c.id; is = c.is; pointer_count = c.pointer_count; values = c.values; pointer = c.pointer };
  inj = s.inj;
  old = s.old;
}

module _ (segment_of : ℕ → ℕ) (put : ℕ → Option ℕ) (st : State) (un : Unbounded) (inv : Inv segment_of st) (s : Simulates put st un) where
  pub root_sim : (i k : ℕ) (v w : Option ℕ) → Same put v w → ((b : ℕ) → v ≡ some b → Reached st b) → Simulates put (set_root st i k v) (u_set_root un i k w)
  root_sim i k v w c r = record {
    attached = s.attached;
    inside = s.inside;
    root = λ j n o l. upd2_rel (Same put) st.root un.root i k v w j n c (s.root j n o l);
    rec = λ b h. let c = s.rec b (back b h) in record { id = c.id; is = c.is; pointer_count = c.pointer_count; values = c.values; pointer = c.pointer };
    inj = s.inj;
    old = s.old;
  }
    where
      back : (b : ℕ) → Live (set_root st i k v) b → Live st b
      back b h = root_live segment_of st inv i k v r h

  pub store_sim : (i a f r : ℕ) (new w : Option ℕ) → Holds st i a → f < st.pointer_count a → ((b : ℕ) → new ≡ some b → Holds st i b)
      → put a ≡ some r → Same put new w → Simulates put (store st i a f new) (u_store un r f w)
  store_sim i a f r new w ha hf hn e c = record {
    attached = s.attached;
    inside = s.inside;
    root = s.root;
    rec = rec';
    inj = s.inj;
    old = s.old;
  }
    where
      lnk' : (b : ℕ) (q : SameRecord put st un b) (g : ℕ) → g < st.pointer_count b → Dec (b ≡ a) → Same put (upd2 st.pointer a f new b g) (upd2 un.pointer r f w q.id g)
      lnk' b q g l (yes k) =
          let d : q.id ≡ r = some-injective q.id r (sym q.is ∙ ap put k ∙ e) in
          rw (upd_hit₁ st.pointer a (upd (st.pointer a) f new) b g k, upd_hit₁ un.pointer r (upd (un.pointer r) f w) q.id g d)
          (upd_rel (Same put) (st.pointer a) (un.pointer r) f new w g c
          (λ _. subst (λ z. Same put (st.pointer z g) (un.pointer r g)) k (subst (λ z. Same put (st.pointer b g) (un.pointer z g)) d (q.pointer g l))))
      lnk' b q g l (no k) =
          rw (upd_miss₁ st.pointer a (upd (st.pointer a) f new) b g k, upd_miss₁ un.pointer r (upd (un.pointer r) f w) q.id g (λ d. k (s.inj b a r (q.is ∙ ap some d) e)))
          (q.pointer g l)

      rec' : (b : ℕ) → Live (store st i a f new) b → SameRecord put (store st i a f new) (u_store un r f w) b
      rec' b h =
          let q = s.rec b (Store.live_back segment_of st inv i a f new ha hf hn h) in
          record { id = q.id; is = q.is; pointer_count = q.pointer_count; values = q.values; pointer = λ g l. lnk' b q g l (ℕ_discrete b a) }

  -- the new record's number is the list's length
  pub make_sim : (i d b n : ℕ) (z : List ℕ) → st.used b ≡ false → st.condemned (segment_of b) ≡ false → Simulates (upd put b (some un.count)) (make st i d b n z) (u_make un i d n z)
  make_sim i d b n z hu hd = record {
    attached = s.attached;
    inside = s.inside;
    root =
        λ j k o l. upd2_rel (Same put') st.root un.root i d (some b) (some un.count) j k (ap some (upd_same put b (some un.count)))
        (lift (st.root j k) (un.root j k) (λ c e. root (inl (j, (k, o, l, e)))) (s.root j k o l));
    rec = λ x h. rec' x (Make.live_back segment_of st inv i d b n z hu hd h);
    inj = inj';
    old = λ x r e. old' x r (upd_cases put b (some un.count) x) e;
  }
    where
      put' : ℕ → Option ℕ
      put' = upd put b (some un.count)

      lift : (v w : Option ℕ) → ((c : ℕ) → v ≡ some c → Live st c) → Same put v w → Same put' v w
      lift v w h c = same_put put b (some un.count) v w (λ c e. Make.live_other segment_of st inv i d b n z hu hd c (h c e)) c

      old' : (x r : ℕ) → ((x ≡ b) × (put' x ≡ some un.count)) ⊎ ((x ≢ b) × (put' x ≡ put x)) → put' x ≡ some r → r < suc un.count
      old' x r (inl q) e = let z : un.count ≡ r = cc in omega arith
      old' x r (inr q) e = omega (arith, s.old x r (sym q.1 ∙ e))

      inj' : (x y r : ℕ) → put' x ≡ some r → put' y ≡ some r → x ≡ y
      inj' x y r e f = go (upd_cases put b (some un.count) x) (upd_cases put b (some un.count) y)
        where
          go : ((x ≡ b) × (put' x ≡ some un.count)) ⊎ ((x ≢ b) × (put' x ≡ put x)) → ((y ≡ b) × (put' y ≡ some un.count)) ⊎ ((y ≢ b) × (put' y ≡ put y)) → x ≡ y
          go (inl p) (inl q) = p.0 ∙ sym q.0
          go (inl p) (inr q) = let z : un.count ≡ r = cc in absurd (omega (arith, s.old y r (sym q.1 ∙ f)))
          go (inr p) (inl q) = let z : un.count ≡ r = cc in absurd (omega (arith, s.old x r (sym p.1 ∙ e)))
          go (inr p) (inr q) = s.inj x y r (sym p.1 ∙ e) (sym q.1 ∙ f)

      rec' : (x : ℕ) → Live st x ⊎ (x ≡ b) → SameRecord put' (make st i d b n z) (u_make un i d n z) x
      rec' x (inr e) = record {
        id = un.count;
        is = upd_hit put b (some un.count) x e;
        pointer_count = upd_hit st.pointer_count b n x e ∙ sym (upd_same un.pointer_count un.count n);
        values = upd_hit st.values b z x e ∙ sym (upd_same un.values un.count z);
        pointer = λ g l. rw (upd_hit₁ st.pointer b (λ _. none) x g e, upd_hit₁ un.pointer un.count (λ _. none) un.count g refl);
      }
      rec' x (inl h) =
          let q = s.rec x h in
          let nb : x ≢ b = Make.live_other segment_of st inv i d b n z hu hd x h in
          let nr : q.id ≢ un.count = (λ e. absurd (omega (arith, s.old x q.id q.is))) in
          record {
            id = q.id;
            is = upd_other put b (some un.count) x nb ∙ q.is;
            pointer_count = upd_other st.pointer_count b n x nb ∙ q.pointer_count ∙ sym (upd_other un.pointer_count un.count n q.id nr);
            values = upd_other st.values b z x nb ∙ q.values ∙ sym (upd_other un.values un.count z q.id nr);
            pointer = λ g l. let l' : g < st.pointer_count x = subst (λ z. g < z) (upd_other st.pointer_count b n x nb) l in
                rw (upd_miss₁ st.pointer b (λ _. none) x g nb, upd_miss₁ un.pointer un.count (λ _. none) q.id g nr)
                (lift (st.pointer x g) (un.pointer q.id g) (λ c e. next h (g, l', e)) (q.pointer g l'));
          }

  pub attach_sim : (i : ℕ) (v w : Option ℕ) → ((b : ℕ) → v ≡ some b → Root st b) → st.phase ≢ sync1 → st.phase ≢ sync2 → Same put v w → Simulates put (attach st i v) (u_attach un i w)
  attach_sim i v w hv n1 n2 c = record {
    attached = λ j. upd_rel ◌≡◌ st.attached un.attached i true true j refl (λ _. s.attached j);
    inside = λ j. upd_rel ◌≡◌ st.inside un.inside i true true j refl (λ _. s.inside j);
    root =
        λ j k o l. upd_rel (λ (f g : ℕ → Option ℕ). Same put (f k) (g k)) st.root un.root i (upd (λ _. none) 0 v) (upd (λ _. none) 0 w) j
        (upd_rel (Same put) (λ _. none) (λ _. none) 0 v w k c (λ _. refl))
        (λ m. s.root j k (sym (upd_other st.attached i true j m) ∙ o) l);
    rec = λ b h. let c = s.rec b (attach_live segment_of st inv i v hv n1 n2 h) in record { id = c.id; is = c.is; pointer_count = c.pointer_count; values = c.values; pointer = c.pointer };
    inj = s.inj;
    old = s.old;
  }

  pub detach_sim : (i : ℕ) → Simulates put (detach st i) (u_detach un i)
  detach_sim i = record {
    attached = λ j. upd_rel ◌≡◌ st.attached un.attached i false false j refl (λ _. s.attached j);
    inside = λ j. upd_rel ◌≡◌ st.inside un.inside i false false j refl (λ _. s.inside j);
    root =
        λ j k o l. upd_rel (λ (f g : ℕ → Option ℕ). Same put (f k) (g k)) st.root un.root i (λ _. none) (λ _. none) j refl
        (λ m. s.root j k (sym (upd_other st.attached i false j m) ∙ o) l);
    rec = λ b h. let c = s.rec b (detach_live segment_of st inv i h) in record { id = c.id; is = c.is; pointer_count = c.pointer_count; values = c.values; pointer = c.pointer };
    inj = s.inj;
    old = s.old;
  }

  pub side_sim : (i : ℕ) (v : Bool) → Simulates put (set_inside st i v) (u_set_inside un i v)
  side_sim i v = record {
    attached = s.attached;
    inside = λ j. upd_rel ◌≡◌ st.inside un.inside i v v j refl (λ _. s.inside j);
    root = s.root;
    rec = λ b h. let c = s.rec b h in record { id = c.id; is = c.is; pointer_count = c.pointer_count; values = c.values; pointer = c.pointer };
    inj = s.inj;
    old = s.old;
  }

  -- data fields: block a holds the record r
  pub values_sim : (a r : ℕ) (z : List ℕ) → put a ≡ some r → Simulates put (set_values st a z) (u_set_values un r z)
  values_sim a r z e = record { attached = s.attached; inside = s.inside; root = s.root; rec = rec'; inj = s.inj; old = s.old }
    where
      num : (b : ℕ) (q : SameRecord put st un b) → Dec (b ≡ a) → upd st.values a z b ≡ upd un.values r z q.id
      num b q (yes k) = upd_hit st.values a z b k ∙ sym (upd_hit un.values r z q.id (some-injective q.id r (sym q.is ∙ ap put k ∙ e)))
      num b q (no k) = upd_other st.values a z b k ∙ q.values ∙ sym (upd_other un.values r z q.id (λ d. k (s.inj b a r (q.is ∙ ap some d) e)))

      rec' : (b : ℕ) → Live st b → SameRecord put (set_values st a z) (u_set_values un r z) b
      rec' b h = let q = s.rec b h in record { id = q.id; is = q.is; pointer_count = q.pointer_count; values = num b q (ℕ_discrete b a); pointer = q.pointer }
