-- The theorems of request No. 2, applied to a computed case. What the memory is before the detach is computed; what it is afterwards, and that the
-- make filled its segment, is what they say.
use mathlib.Core.Path.{◌≡◌, refl, sym, ◌∙◌, ap, subst}
use mathlib.Core.Logic.{inl}
use mathlib.Core.List.{List, [], ◌∷◌, tail}
use Prim.Native.Nat.{ℕ, suc}
use native.Mathlib.Omega.{arith}
use lib.ListN.{take, drop}
use Rattle.std.specs.Prelude.{Ok}
use Rattle.layout.specs.declared.Geometry.{Geometry}
use Rattle.layout.specs.Geometry.{segment_of, blocks_in}
use Rattle.layout.specs.Mem.{Mem, mem_of}
use Rattle.theory.specs.Calls.{c_make, c_detach}
use Rattle.theory.proofs.Invariant.{none_some}
use Rattle.model.specs.declared.Answer.TheVariants.{Done}
use Rattle.model.specs.Fields.{root, tag, class, place}
use Rattle.model.specs.Opening.{opened}
use Rattle.model.specs.Lists.{Element, call_element, ghost_start, by_opening}
use Rattle.model.specs.Run.{Command}
use Rattle.guarantee.specs.Keeping.{Applied}
use Rattle.guarantee.specs.HandsBack.{handed_back, StandsIn, HandsBack, FullAtOnce}
use Rattle.guarantee.proofs.HandsBack.{every_hands_back}
use Rattle.guarantee.proofs.FullAtOnce.{every_full_at_once}
use Rattle.model_cases.specs.Replies.{Reply, replies, inputs, outputs, geometry, sevens}
use Rattle.model_cases.specs.Long.{long_detach}
use Rattle.model_cases.proofs.Long.{long_detach-holds}
use Rattle.guarantee_cases.specs.HandsBack.{OfHandsBack}
use Rattle.guarantee_cases.proofs.CaseRun.{commands_in, elements_of, CaseRun, memory_at, case_known}
use Rattle.guarantee_cases.proofs.Instance.{sizes_sevens}
use Rattle.guarantee_cases.proofs.Along.{applied_to}
use Rattle.model.specs.Tag as Tag

abbrev asked : List Command
asked = commands_in (inputs long_detach)

abbrev replied : List Reply
replied = tail (outputs long_detach)

-- what is computed: the blocks of class 14, the segment of a word, and the memory between the make and the detach
pub record Between (g : Geometry) (m : Mem) : Type 0 where
  pub one_block : blocks_in g 14 ≡ 1
  pub segment : segment_of g 8192 ≡ 2
  pub names : root m 0 2 ≡ 8193
  pub two : handed_back m 0 ≡ 0 ∷ 1 ∷ []
  pub first : (class m 0 ≡ 3) × (place m 0 ≡ 1)
  pub second : (class m 1 ≡ 13) × (place m 1 ≡ 1)

-- ---- the case: the make (3) and the detach (4)

module _ (g : Geometry) (p : CaseRun g asked replied) (w : Between g (mem_of g (p.at 4))) where
  abbrev at : ℕ → List ℕ
  at = p.at

  abbrev elements : List Element
  elements = elements_of g at asked replied

  made_applied : Applied g (at 3) (call_element (c_make 0 2 0 2048) g (at 3) (Ok Done) (at 4))
  made_applied =
      applied_to g (at 0) ghost_start elements (by_opening p.opened) p.chain (take 3 elements) (drop 4 elements)
      (call_element (c_make 0 2 0 2048) g (at 3) (Ok Done) (at 4)) refl (λ e. none_some e)

  detached_applied : Applied g (at 4) (call_element (c_detach 0) g (at 4) (Ok Done) (at 5))
  detached_applied =
      applied_to g (at 0) ghost_start elements (by_opening p.opened) p.chain (take 4 elements) (drop 5 elements)
      (call_element (c_detach 0) g (at 4) (Ok Done) (at 5)) refl (λ e. none_some e)

  filled : FullAtOnce g (mem_of g (at 3)) (mem_of g (at 4)) 0 2
  filled = every_full_at_once g (at 3) (at 4) 0 2 0 2048 14 made_applied refl w.one_block

  third : segment_of g filled.at ≡ 2
  third =
      let e : suc filled.at ≡ 8193 = sym filled.named ∙ w.names in
      let h : filled.at ≡ 8192 = omega arith in
      ap (segment_of g) h ∙ w.segment

  back : HandsBack g (mem_of g (at 4)) (mem_of g (at 5)) 0
  back = every_hands_back g (at 4) (at 5) 0 detached_applied

  stands_first : StandsIn 0 (handed_back (mem_of g (at 4)) 0)
  stands_first = subst (StandsIn 0) (sym w.two) (0, omega arith, refl)

  stands_second : StandsIn 1 (handed_back (mem_of g (at 4)) 0)
  stands_second = subst (StandsIn 1) (sym w.two) (1, omega arith, refl)

  stays : tag (mem_of g (at 5)) 2 ≡ Tag.full
  stays =
      let full : tag (mem_of g (at 4)) 2 ≡ Tag.full = ap (tag (mem_of g (at 4))) (sym third) ∙ filled.full in
      (back.others 2 (λ z. let held = ((back.exactly 2).0 z).1 in omega arith)).0 ∙ full

  of_hands_back : OfHandsBack
  of_hands_back = record {
    geometry = g;
    content = p.content;
    words = at 0;
    calls = elements;
    opened = p.opened;
    chain = p.chain;
    before = take 3 elements;
    rest = drop 5 elements;
    make_before = at 3;
    make_after = at 4;
    detach_after = at 5;
    made = refl;
    full = filled;
    third = third;
    back = back;
    two = w.two;
    first = let x = back.parts 0 stands_first in (x.0, x.1 ∙ w.first.0, x.2 ∙ w.first.1);
    second = let x = back.parts 1 stands_second in (x.0, x.1 ∙ w.second.0, x.2 ∙ w.second.1);
    stays = stays;
  }

-- ---- over three segments of sevens

known : (p : CaseRun (geometry 3) asked replied) × ((n : ℕ) → mem_of (geometry 3) (p.at n) ≡ memory_at (geometry 3) (opened (geometry 3) (sevens (geometry 3))) asked n)
known = case_known (geometry 3) (omega arith) (omega arith) (inl refl) (sevens (geometry 3)) (sizes_sevens (geometry 3)) asked replied long_detach-holds

between : (m : Mem) → m ≡ memory_at (geometry 3) (opened (geometry 3) (sevens (geometry 3))) asked 4 → Between (geometry 3) m
unfolding replies
between m e = record {
  one_block = refl;
  segment = refl;
  names = ap (λ x. root x 0 2) e;
  two = ap (λ x. handed_back x 0) e;
  first = (ap (λ x. class x 0) e, ap (λ x. place x 0) e);
  second = (ap (λ x. class x 1) e, ap (λ x. place x 1) e);
}

pub hands_back_consequences : OfHandsBack
hands_back_consequences = of_hands_back (geometry 3) known.0 (between (mem_of (geometry 3) (known.0.at 4)) (known.1 4))
