-- Laws of functions changed at one place, tables of values, and the trace stack.
use Rattle.theory.specs.TraceStack.{tab, mem?, push_if, push, pushes}
use mathlib.Core.Path.{◌≡◌, refl, ap, sym, ◌∙◌, subst}
use mathlib.Core.Logic.{◌⊎◌, inl, inr, ⊎_elim, ◌≢◌}
use mathlib.Core.Bool.{Bool, true, false}
use mathlib.Core.Option.{Option, none, some}
use mathlib.Core.List.Memᴰ
use mathlib.Core.List.{List, [], ◌∷◌, ◌++◌, Memᴰ}
use Prim.Native.Nat.{ℕ, zero, suc, ◌<◌}
use native.Mathlib.Omega.{arith}
use native.Mathlib.Decide.{ℕ_discrete}
use Rattle.basics.proofs.Order.{same_or_not}
use Rattle.theory.specs.Update.{if_dec, upd, upd2}
pub use Rattle.theory.specs.Invariant.{Nodup, StackOk}

-- ---- point updates

pub upd_cases : {A : Type 0} (f : ℕ → A) (k : ℕ) (v : A) (x : ℕ) → ((x ≡ k) × (upd f k v x ≡ v)) ⊎ ((x ≢ k) × (upd f k v x ≡ f x))
unfolding upd
upd_cases {A} f k v x = go (ℕ_discrete x k)
  where
    go : (d : Dec (x ≡ k)) → ((x ≡ k) × (if_dec d v (f x) ≡ v)) ⊎ ((x ≢ k) × (if_dec d v (f x) ≡ f x))
    go (yes e) = inl (e, refl)
    go (no n) = inr (n, refl)

pub upd_same : {A : Type 0} (f : ℕ → A) (k : ℕ) (v : A) → upd f k v k ≡ v
upd_same {A} f k v = go (upd_cases f k v k)
  where
    go : ((k ≡ k) × (upd f k v k ≡ v)) ⊎ ((k ≢ k) × (upd f k v k ≡ f k)) → upd f k v k ≡ v
    go (inl h) = h.1
    go (inr h) = absurd (h.0 refl)

pub upd_other : {A : Type 0} (f : ℕ → A) (k : ℕ) (v : A) (x : ℕ) → x ≢ k → upd f k v x ≡ f x
upd_other {A} f k v x n = go (upd_cases f k v x)
  where
    go : ((x ≡ k) × (upd f k v x ≡ v)) ⊎ ((x ≢ k) × (upd f k v x ≡ f x)) → upd f k v x ≡ f x
    go (inl h) = absurd (n h.0)
    go (inr h) = h.1

pub upd_hit : {A : Type 0} (f : ℕ → A) (k : ℕ) (v : A) (x : ℕ) → x ≡ k → upd f k v x ≡ v
upd_hit f k v x e = ap (upd f k v) e ∙ upd_same f k v

-- the same, one argument further on
pub upd_hit₁ : {A : Type 0} (f : ℕ → ℕ → A) (k : ℕ) (v : ℕ → A) (x y : ℕ) → x ≡ k → upd f k v x y ≡ v y
upd_hit₁ {A} f k v x y e = ap (λ (h : ℕ → A). h y) (upd_hit f k v x e)

pub upd_miss₁ : {A : Type 0} (f : ℕ → ℕ → A) (k : ℕ) (v : ℕ → A) (x y : ℕ) → x ≢ k → upd f k v x y ≡ f x y
upd_miss₁ {A} f k v x y e = ap (λ (h : ℕ → A). h y) (upd_other f k v x e)

pub upd2_cases : {A : Type 0} (f : ℕ → ℕ → A) (a b : ℕ) (v : A) (x y : ℕ)
    → ((x ≡ a) × (y ≡ b) × (upd2 f a b v x y ≡ v)) ⊎ (upd2 f a b v x y ≡ f x y)
upd2_cases {A} f a b v x y = go (upd_cases f a (upd (f a) b v) x) (upd_cases (f a) b v y)
  where
    go : ((x ≡ a) × (upd2 f a b v x ≡ upd (f a) b v)) ⊎ ((x ≢ a) × (upd2 f a b v x ≡ f x))
        → ((y ≡ b) × (upd (f a) b v y ≡ v)) ⊎ ((y ≢ b) × (upd (f a) b v y ≡ f a y))
        → ((x ≡ a) × (y ≡ b) × (upd2 f a b v x y ≡ v)) ⊎ (upd2 f a b v x y ≡ f x y)
    go (inl h) (inl k) = inl (h.0, k.0, ap (λ (g : ℕ → A). g y) h.1 ∙ k.1)
    go (inl h) (inr k) = inr (ap (λ (g : ℕ → A). g y) h.1 ∙ k.1 ∙ ap (λ z. f z y) (sym h.0))
    go (inr h) k = inr (ap (λ (g : ℕ → A). g y) h.1)

pub upd2_same : {A : Type 0} (f : ℕ → ℕ → A) (a b : ℕ) (v : A) → upd2 f a b v a b ≡ v
upd2_same {A} f a b v = ap (λ (g : ℕ → A). g b) (upd_same f a (upd (f a) b v)) ∙ upd_same (f a) b v

-- a value is that of a function changed at one place
pub upd_by : {A : Type 0} (f : ℕ → A) (k : ℕ) (v : A) (j : ℕ) (z : A) → (j ≡ k → z ≡ v) → ((j ≡ k → ⊥) → z ≡ f j) → z ≡ upd f k v j
upd_by f k v j z h e = ⊎_elim (λ c. h c.0 ∙ sym c.1) (λ c. e c.0 ∙ sym c.1) (upd_cases f k v j)

pub upd2_by : {A : Type 0} (f : ℕ → ℕ → A) (a b : ℕ) (v : A) (x y : ℕ) (z : A) → (x ≡ a → y ≡ b → z ≡ v) → ((x ≡ a → y ≡ b → ⊥) → z ≡ f x y) → z ≡ upd2 f a b v x y
upd2_by {A} f a b v x y z h e = go (same_or_not x a) (same_or_not y b)
  where
    other : (x ≡ a → y ≡ b → ⊥) → z ≡ upd2 f a b v x y
    other d = e d ∙ sym (⊎_elim (λ q. absurd (d q.0 q.1)) (λ q. q) (upd2_cases f a b v x y))

    go : (x ≡ a) ⊎ (x ≡ a → ⊥) → (y ≡ b) ⊎ (y ≡ b → ⊥) → z ≡ upd2 f a b v x y
    go (inl p) (inl q) = h p q ∙ sym (ap (λ w. upd2 f a b v w y) p ∙ ap (upd2 f a b v a) q ∙ upd2_same f a b v)
    go (inl p) (inr q) = other (λ i j. q j)
    go (inr p) q = other (λ i j. p i)

pub upd_alike : {A : Type 0} (f h : ℕ → A) (k : ℕ) (v : A) → ((x : ℕ) → f x ≡ h x) → (x : ℕ) → upd f k v x ≡ upd h k v x
unfolding upd
upd_alike f h k v e x = ap (λ z. if_dec (ℕ_discrete x k) v z) (e x)

-- ---- tables: f 0, .., f (n - 1)

pub tab_mem : {A : Type 0} (n : ℕ) (f : ℕ → A) (k : ℕ) → k < n → Memᴰ (f k) (tab n f)
tab_mem zero f k h = absurd (omega arith)
tab_mem {A} (suc n) f k h = go (ℕ_discrete k n) (λ (q : k < n). tab_mem n f k q)
  where
    go : Dec (k ≡ n) → (k < n → Memᴰ (f k) (tab n f)) → Memᴰ (f k) (tab n f ++ (f n ∷ []))
    go (yes e) r = Memᴰ.append_right (tab n f) (Memᴰ.head (ap f e))
    go (no e) r = Memᴰ.append_left (f n ∷ []) (r (omega arith))

pub tab_inv : {A : Type 0} (n : ℕ) (f : ℕ → A) {a : A} → Memᴰ a (tab n f) → (k : ℕ) × (k < n) × (f k ≡ a)
tab_inv zero f m = absurd (Memᴰ.not-nil m)
tab_inv {A} (suc n) f {a} m = go (λ q. tab_inv n f q) (Memᴰ.append_cases (tab n f) m)
  where
    up : (k : ℕ) × (k < n) × (f k ≡ a) → (k : ℕ) × (k < suc n) × (f k ≡ a)
    up h = let q : h.0 < n = h.1 in (h.0, omega arith, h.2)

    go : (Memᴰ a (tab n f) → (k : ℕ) × (k < n) × (f k ≡ a)) → Memᴰ a (tab n f) ⊎ Memᴰ a (f n ∷ []) → (k : ℕ) × (k < suc n) × (f k ≡ a)
    go r (inl q) = up (r q)
    go r (inr q) = (n, omega arith, sym (Memᴰ.eq_of_singleton q))

pub tab_same : {A : Type 0} (n : ℕ) (f h : ℕ → A) → ((i : ℕ) → i < n → f i ≡ h i) → tab n f ≡ tab n h
tab_same zero f h e = refl
tab_same (suc n) f h e = let a = tab_same n f h (λ i l. e i (omega arith)) in let b = e n (omega arith) in rw (a, b) refl

-- ---- the stack

pub push_keep : (m : ℕ → Bool) (r : Option ℕ) (l : List ℕ) {x : ℕ} → Memᴰ x l → Memᴰ x (push m r l)
unfolding push
push_keep m none l h = h
push_keep m (some b) l {x} h = go (m b) (mem? b l)
  where
    go : (c : Bool) (d : Dec (Memᴰ b l)) → Memᴰ x (push_if c d b l)
    go true d = h
    go false (yes _) = h
    go false (no _) = Memᴰ.tail h

pub push_inv : (m : ℕ → Bool) (r : Option ℕ) (l : List ℕ) {x : ℕ} → Memᴰ x (push m r l) → Memᴰ x l ⊎ (r ≡ some x)
unfolding push
push_inv m none l h = inl h
push_inv m (some b) l {x} h = go (m b) (mem? b l) h
  where
    go : (c : Bool) (d : Dec (Memᴰ b l)) → Memᴰ x (push_if c d b l) → Memᴰ x l ⊎ (some b ≡ some x)
    go true d h = inl h
    go false (yes _) h = inl h
    go false (no _) h = ⊎_elim (λ e. inr (ap some (sym e))) inl (Memᴰ.cases_cons h)

abbrev pub In : (ℕ → Bool) → List ℕ → ℕ → Type 0
In m l b = (m b ≡ true) ⊎ Memᴰ b l

pub push_did : (m : ℕ → Bool) (b : ℕ) (l : List ℕ) → In m (push m (some b) l) b
unfolding push
push_did m b l = go (m b) refl (mem? b l)
  where
    go : (c : Bool) → m b ≡ c → (d : Dec (Memᴰ b l)) → (m b ≡ true) ⊎ Memᴰ b (push_if c d b l)
    go true e d = inl e
    go false e (yes h) = inr h
    go false e (no _) = inr (Memᴰ.head refl)

pub push_stack : (m : ℕ → Bool) (r : Option ℕ) (l : List ℕ) → StackOk m l → StackOk m (push m r l)
unfolding push
push_stack m none l s = s
push_stack m (some b) l s = go (m b) refl (mem? b l)
  where
    go : (c : Bool) → m b ≡ c → (d : Dec (Memᴰ b l)) → StackOk m (push_if c d b l)
    go true e d = s
    go false e (yes _) = s
    go false e (no n) = record { white = λ x h. ⊎_elim (λ q. ap m q ∙ e) (s.white x) (Memᴰ.cases_cons h); nodup = (n, s.nodup) }

pub pushes_keep : (m : ℕ → Bool) (rs : List (Option ℕ)) (l : List ℕ) {x : ℕ} → Memᴰ x l → Memᴰ x (pushes m rs l)
pushes_keep m [] l h = h
pushes_keep m (r ∷ rs) l h = pushes_keep m rs (push m r l) (push_keep m r l h)

pub pushes_inv : (m : ℕ → Bool) (rs : List (Option ℕ)) (l : List ℕ) {x : ℕ} → Memᴰ x (pushes m rs l) → Memᴰ x l ⊎ Memᴰ (some x) rs
pushes_inv m [] l h = inl h
pushes_inv m (r ∷ rs) l {x} h = go (pushes_inv m rs (push m r l) h)
  where
    go : Memᴰ x (push m r l) ⊎ Memᴰ (some x) rs → Memᴰ x l ⊎ Memᴰ (some x) (r ∷ rs)
    go (inl h) = ⊎_elim inl (λ e. inr (Memᴰ.head (sym e))) (push_inv m r l h)
    go (inr h) = inr (Memᴰ.tail h)

pub pushes_did : (m : ℕ → Bool) (rs : List (Option ℕ)) (l : List ℕ) (b : ℕ) → Memᴰ (some b) rs → In m (pushes m rs l) b
pushes_did m [] l b h = absurd (Memᴰ.not-nil h)
pushes_did m (r ∷ rs) l b h = go (λ q. pushes_did m rs (push m r l) b q) (Memᴰ.cases_cons h)
  where
    did : In m (push m r l) b → In m (pushes m rs (push m r l)) b
    did (inl e) = inl e
    did (inr q) = inr (pushes_keep m rs (push m r l) q)

    go : (Memᴰ (some b) rs → In m (pushes m rs (push m r l)) b) → (some b ≡ r) ⊎ Memᴰ (some b) rs → In m (pushes m rs (push m r l)) b
    go f (inl e) = did (subst (λ (z : Option ℕ). In m (push m z l) b) e (push_did m b l))
    go f (inr q) = f q

pub pushes_stack : (m : ℕ → Bool) (rs : List (Option ℕ)) (l : List ℕ) → StackOk m l → StackOk m (pushes m rs l)
pushes_stack m [] l s = s
pushes_stack m (r ∷ rs) l s = pushes_stack m rs (push m r l) (push_stack m r l s)

-- in order, the last by itself
pub pushes_append : (f : ℕ → Bool) (rs : List (Option ℕ)) (r : Option ℕ) (l : List ℕ) → pushes f (rs ++ (r ∷ [])) l ≡ push f r (pushes f rs l)
pushes_append f [] r l = refl
pushes_append f (x ∷ rs) r l = pushes_append f rs r (push f x l)

push_alike : (f h : ℕ → Bool) (r : Option ℕ) (l : List ℕ) → ((b : ℕ) → r ≡ some b → f b ≡ h b) → push f r l ≡ push h r l
unfolding push
push_alike f h none l e = refl
push_alike f h (some b) l e = ap (λ z. push_if z (mem? b l) b l) (e b refl)

pub pushes_alike : (f h : ℕ → Bool) (rs : List (Option ℕ)) (l : List ℕ) → ((b : ℕ) → Memᴰ (some b) rs → f b ≡ h b) → pushes f rs l ≡ pushes h rs l
pushes_alike f h [] l e = refl
pushes_alike f h (r ∷ rs) l e = ap (pushes f rs) (push_alike f h r l (λ b z. e b (Memᴰ.head (sym z)))) ∙ pushes_alike f h rs (push h r l) (λ b z. e b (Memᴰ.tail z))
