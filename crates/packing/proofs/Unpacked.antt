-- An answer that keeps a call's promise, packed and unpacked, is that answer: so the promise is the exported function's.
use mathlib.Core.Path.{◌≡◌, refl, sym, ◌∙◌, ap, subst}
use mathlib.Core.Bool.{Bool, true, false}
use mathlib.Core.Option.{none}
use mathlib.Core.List.{List}
use Prim.Native.Nat.{ℕ, zero, suc, ◌+◌, ◌*◌, ◌%◌, ◌≤◌, ◌<◌}
use native.Mathlib.Omega.{arith}
use lib.ListN.{length}
use Rattle.std.specs.Prelude.{Result, Ok, Err}
use Rattle.classes.specs.Record.{pointer_count_of, value_count_of}
use Rattle.layout.specs.declared.Geometry.{Geometry}
use Rattle.layout.specs.Geometry.{wrong_size}
use Rattle.layout.specs.Mem.{Mem}
use Rattle.theory.specs.Calls.{Call}
use Rattle.theory.proofs.Invariant.{none_some}
use Rattle.model.specs.declared.Answer.{Answer}
use Rattle.model.specs.declared.Answer.TheVariants.{Done, Number, Same, Shape}
use Rattle.model.specs.declared.Refusal.{Refusal}
use Rattle.model.specs.Records.{half_word, header_word}
use Rattle.model.specs.Refusals.{number_of}
use Rattle.model.specs.Answers.{answer_of, refusal_in, refusal_of, IsOk, IsNumber, IsFlag, IsRecordShape, ResultOf}
use Rattle.model.specs.Promise.{PromiseOf, Promise, OpenPromise, StartPromise}
use Rattle.model.proofs.Numbers.{OfTable}
use Rattle.model.proofs.Refusals.{in_table}
use Rattle.model_laws.proofs.Headers.{shape_halves}
use Rattle.theory.specs.Calls as theory
use Rattle.packing.specs.Packed.{upper, numbered_or, pack, pack_value, flagged, shaped, unpack, unpack_number, unpack_same, unpack_shape}
use Rattle.packing.proofs.Halves.{value_back, numbered, error_back}

-- of a kind where it is not refused
abbrev pub Kind : (theory.Answer → Type 0) → Result Answer Refusal → Type 0
Kind Sort a = refusal_of a ≡ none → Sort (answer_of a)

-- a number of the table has no upper half
pub below : (n : ℕ) → OfTable n → n < upper
below n t = let l = t.1 in omega arith

unpacked_no : (n : ℕ) → 1 ≤ n → unpack n ≡ numbered_or (Ok (Number 0)) n
unpacked_no zero l = absurd (omega arith)
unpacked_no (suc n) l = refl

pub unpacked : (a : Result Answer Refusal) → Kind IsOk a → unpack (pack a) ≡ a
unpacked (Ok Done) k = refl
unpacked (Ok (Number v)) k = let e = k refl in cc
unpacked (Ok (Same b)) k = let e = k refl in cc
unpacked (Ok (Shape s)) k = let e = k refl in cc
unpacked (Err e) k = unpacked_no (number_of e) (in_table e).0 ∙ numbered (Ok (Number 0)) e

pub unpacked_number : (a : Result Answer Refusal) → Kind IsNumber a → unpack_number (pack_value a) ≡ a
unpacked_number (Ok Done) k = let e = (k refl).1 in cc
unpacked_number (Ok (Number v)) k = value_back (numbered_or (Ok Done)) (λ v. Ok (Number v)) v
unpacked_number (Ok (Same b)) k = let e = (k refl).1 in cc
unpacked_number (Ok (Shape s)) k = let e = (k refl).1 in cc
unpacked_number (Err e) k = error_back (Ok Done) (λ v. Ok (Number v)) e

pub unpacked_same : (a : Result Answer Refusal) → Kind IsFlag a → unpack_same (pack_value a) ≡ a
unpacked_same (Ok Done) k = let e = (k refl).1 in cc
unpacked_same (Ok (Number v)) k = let e = (k refl).1 in cc
unpacked_same (Ok (Same true)) k = refl
unpacked_same (Ok (Same false)) k = refl
unpacked_same (Ok (Shape s)) k = let e = (k refl).1 in cc
unpacked_same (Err e) k = error_back (Ok Done) flagged e

pub unpacked_shape : (a : Result Answer Refusal) → Kind IsRecordShape a → unpack_shape (pack_value a) ≡ a
unpacked_shape (Ok Done) k = let e = (k refl).1 in cc
unpacked_shape (Ok (Number v)) k = let e = (k refl).1 in cc
unpacked_shape (Ok (Same b)) k = let e = (k refl).1 in cc
unpacked_shape (Ok (Shape s)) k =
    let q = k refl in
    let z : s ≡ q.0 = cc in
    let p : pointer_count_of s < half_word = rw z q.2.0 in
    let n : value_count_of s < half_word = rw z q.2.1 in
    let e : pointer_count_of s % half_word * half_word + value_count_of s % half_word ≡ header_word s = omega arith in
    value_back (numbered_or (Ok Done)) shaped (pointer_count_of s % half_word * half_word + value_count_of s % half_word)
    ∙ ap shaped e ∙ ap (λ x. Ok (Shape x)) (shape_halves s (p, n))
unpacked_shape (Err e) k = error_back (Ok Done) shaped e

-- ---- the promise of what is unpacked

module _ {Gives : Geometry → theory.Answer → Type 0} {may : List ℕ} {does : Geometry → Mem → theory.Answer × Mem} (g' g : Geometry) (xs ys : List ℕ) (a : Result Answer Refusal) (same : g' ≡ g)
    (p : PromiseOf answer_of Gives may does g' xs a ys) where
  carried : (r : Result Answer Refusal) → r ≡ a → PromiseOf answer_of Gives may does g xs r ys
  carried r e = subst (λ z. PromiseOf answer_of Gives may does z xs r ys) same (subst (λ z. PromiseOf answer_of Gives may does g' xs z ys) (sym e) p)

  exports_by : (Sort : theory.Answer → Type 0) (unpacks : ℕ → Result Answer Refusal) (packs : Result Answer Refusal → ℕ) → (Kind Sort a → unpacks (packs a) ≡ a)
      → (Gives g' (answer_of a) → Sort (answer_of a)) → (n : ℕ) → n ≡ packs a → PromiseOf answer_of Gives may does g xs (unpacks n) ys
  exports_by Sort unpacks packs back k n e = carried (unpacks n) (ap unpacks e ∙ back (λ q. k (p.kind q)))

module _ (c : Call) (g' g : Geometry) (xs ys : List ℕ) (a : Result Answer Refusal) (same : g' ≡ g) (p : Promise c g' xs a ys) where
  pub exports : (n : ℕ) → n ≡ pack a → (ResultOf c (answer_of a) → IsOk (answer_of a)) → Promise c g xs (unpack n) ys
  exports n e k = exports_by g' g xs ys a same p IsOk unpack pack (unpacked a) k n e

  pub exports_number : (n : ℕ) → n ≡ pack_value a → (ResultOf c (answer_of a) → IsNumber (answer_of a)) → Promise c g xs (unpack_number n) ys
  exports_number n e k = exports_by g' g xs ys a same p IsNumber unpack_number pack_value (unpacked_number a) k n e

  pub exports_same : (n : ℕ) → n ≡ pack_value a → (ResultOf c (answer_of a) → IsFlag (answer_of a)) → Promise c g xs (unpack_same n) ys
  exports_same n e k = exports_by g' g xs ys a same p IsFlag unpack_same pack_value (unpacked_same a) k n e

  pub exports_shape : (n : ℕ) → n ≡ pack_value a → (ResultOf c (answer_of a) → IsRecordShape (answer_of a)) → Promise c g xs (unpack_shape n) ys
  exports_shape n e k = exports_by g' g xs ys a same p IsRecordShape unpack_shape pack_value (unpacked_shape a) k n e

pub exports_start : (g' g : Geometry) (xs ys : List ℕ) (a : Result Answer Refusal) → g' ≡ g → StartPromise g' xs a ys → (n : ℕ) → n ≡ pack a → StartPromise g xs (unpack n) ys
exports_start g' g xs ys a same p n e = exports_by g' g xs ys a same p IsOk unpack pack (unpacked a) (λ k. k) n e

-- an opening answers ok, or 1
pub exports_open : (g' g : Geometry) (xs ys : List ℕ) (a : Result Answer Refusal) → g' ≡ g → OpenPromise g' xs a ys → (n : ℕ) → n ≡ pack a → OpenPromise g xs (unpack n) ys
exports_open g' g xs ys a same p n e = subst (λ z. OpenPromise z xs (unpack n) ys) same (subst (λ z. OpenPromise g' xs z ys) (sym (ap unpack e ∙ go (wrong_size g' (length xs)) refl)) p)
  where
    go : (b : Bool) → wrong_size g' (length xs) ≡ b → unpack (pack a) ≡ a
    go true q = let z = (p.sizes q).0 in unpacked a (λ i. none_some (sym i ∙ ap refusal_in z))
    go false q = unpacked a (λ i. (p.exact q).0)
