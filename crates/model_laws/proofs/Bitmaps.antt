-- A segment's window of the bitmaps: its length, and that the tree of a class fits in it.
use mathlib.Core.Path.{◌≡◌, sym, ap, subst}
use mathlib.Core.List.{List}
use Prim.Native.Nat.{ℕ, suc, ◌+◌, ◌*◌, ◌≤◌, ◌<◌}
use native.Mathlib.Omega.{arith}
use native.Mathlib.Nat.{suc-mul, mul-le-mul_right}
use lib.ListN.{length, take, drop}
use Rattle.words.specs.Levels.{tree_words}
use Rattle.layout.specs.declared.Geometry.{Geometry}
use Rattle.layout.specs.Geometry.{blocks_in, bitmap_words}
use Rattle.layout.proofs.Sizes.{class_fits}
use Rattle.layout.specs.Mem.{Mem, Sizes}
use Rattle.model.specs.Segments.{above, bitmap}
use Rattle.classes.specs.Class.{IsClass}
use Rattle.model_laws.proofs.Windows.{length-window}

pub bitmap_by : (g : Geometry) (m m' : Mem) → m'.bitmaps ≡ m.bitmaps → (r : ℕ) → bitmap g m' r ≡ bitmap g m r
bitmap_by g m m' e r = ap (λ (l : List ℕ). take (bitmap_words g) (drop (r * bitmap_words g) l)) e

module _ (g : Geometry) (m : Mem) (s : Sizes g m) (r : ℕ) (l : r < g.segments) where
  pub bitmap_ends : r * bitmap_words g + bitmap_words g ≤ length m.bitmaps
  bitmap_ends = let z = s.bitmaps in let e : suc r * bitmap_words g ≤ g.segments * bitmap_words g = mul-le-mul_right (bitmap_words g) l in let f = suc-mul r (bitmap_words g) in omega arith

  pub length-bitmap : length (bitmap g m r) ≡ bitmap_words g
  length-bitmap = length-window m.bitmaps (r * bitmap_words g) (bitmap_words g) bitmap_ends

  pub tree_room : (c : ℕ) → IsClass c → tree_words (above g c) (blocks_in g c) ≤ length (bitmap g m r)
  tree_room c k = subst (λ z. tree_words (above g c) (blocks_in g c) ≤ z) (sym length-bitmap) (class_fits g c k)
