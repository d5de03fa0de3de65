-- What the theorems of request No. 2 say of a case: three segments of classes 3, 13 and 14, and the detach of who made them.
use Rattle.std.specs.Prelude.{◌≡◌, List, [], ◌∷◌, ◌++◌, ℕ, Ok}
use Rattle.layout.specs.declared.Geometry.{Geometry}
use Rattle.layout.specs.Geometry.{segment_of}
use Rattle.layout.specs.Mem.{mem_of}
use Rattle.theory.specs.Calls.{c_make, c_detach}
use Rattle.model.specs.declared.Answer.TheVariants.{Done}
use Rattle.model.specs.Fields.{tag, class, place}
use Rattle.model.specs.Lists.{Element, call_element, Chain, Opened}
use Rattle.guarantee.specs.HandsBack.{handed_back, HandsBack, FullAtOnce}
use Rattle.model.specs.Tag as Tag

pub record OfHandsBack : Type 0 where
  pub geometry : Geometry
  pub content : List ℕ
  pub words : List ℕ
  pub calls : List Element
  pub opened : Opened geometry content words
  pub chain : Chain geometry words calls
  pub before : List Element
  pub rest : List Element
  pub make_before : List ℕ
  pub make_after : List ℕ
  pub detach_after : List ℕ
  pub made : calls ≡ before ++ (call_element (c_make 0 2 0 2048) geometry make_before (Ok Done) make_after ∷ call_element (c_detach 0) geometry make_after (Ok Done) detach_after ∷ rest)
  -- the make of class 14 fills segment 2 at once
  pub full : FullAtOnce geometry (mem_of geometry make_before) (mem_of geometry make_after) 0 2
  pub third : segment_of geometry full.at ≡ 2
  -- the detach hands back segments 0 and 1, each once, in class order, and they are part with the place that they had; segment 2 stays full
  pub back : HandsBack geometry (mem_of geometry make_after) (mem_of geometry detach_after) 0
  pub two : handed_back (mem_of geometry make_after) 0 ≡ 0 ∷ 1 ∷ []
  pub first : (tag (mem_of geometry detach_after) 0 ≡ Tag.part) × (class (mem_of geometry detach_after) 0 ≡ 3) × (place (mem_of geometry detach_after) 0 ≡ 1)
  pub second : (tag (mem_of geometry detach_after) 1 ≡ Tag.part) × (class (mem_of geometry detach_after) 1 ≡ 13) × (place (mem_of geometry detach_after) 1 ≡ 1)
  pub stays : tag (mem_of geometry detach_after) 2 ≡ Tag.full
