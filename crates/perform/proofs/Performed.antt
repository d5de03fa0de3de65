-- The promise of a request is that of the call that it stands for.
use mathlib.Core.Path.{◌≡◌, sym, subst}
use mathlib.Core.List.{List}
use Prim.Native.Nat.{ℕ}
use Rattle.std.specs.Prelude.{Result}
use Rattle.layout.specs.declared.Geometry.{Geometry}
use Rattle.model.specs.declared.Answer.{Answer}
use Rattle.model.specs.declared.Refusal.{Refusal}
use Rattle.model.specs.Promise.{Promise}
use Rattle.perform.specs.declared.Request.{Request}
use Rattle.perform.specs.Requests.{call_of}

pub performed : {q p : Request} → q ≡ p → (g : Geometry) (xs : List ℕ) (r : Result Answer Refusal) (ys : List ℕ) → Promise (call_of p) g xs r ys → Promise (call_of q) g xs r ys
performed e g xs r ys k = subst (λ z. Promise (call_of z) g xs r ys) (sym e) k
