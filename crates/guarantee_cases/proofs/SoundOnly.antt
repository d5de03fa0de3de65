-- What an opening leaves, with the stacks of segments all zero: it is sound, as before, and not summed.
use mathlib.Core.Path.{◌≡◌, refl}
use Prim.Native.Nat.{ℕ, ◌+◌, ◌*◌, ◌<◌}
use native.Mathlib.Omega.{arith}
use lib.ListN.{replicate, length-replicate}
use borrow.Author.Tests.{eq-eqb}
use Rattle.words.proofs.Zeros.{zeros_at}
use Rattle.layout.specs.declared.Geometry.{Geometry}
use Rattle.layout.specs.Geometry.{len}
use Rattle.layout.specs.Mem.{Mem, Sizes}
use Rattle.model.specs.Fields.{tag}
use Rattle.model.specs.Segments.{free_stack, count}
use Rattle.model.specs.Opening.{opened}
use Rattle.model.specs.Consistent.{Summed}
use Rattle.refine_start.proofs.Opened.{opened_segment, sizes_opened, opened_consistent}
use Rattle.guarantee.specs.Independent.{SameButSummaries, SoundAlone}
use Rattle.guarantee.proofs.Independent.{sound_together}
use Rattle.layout.specs.Region as Region
use Rattle.model.specs.Tag as Tag
use Rattle.model_cases.specs.Replies.{geometry, sevens}
use Rattle.guarantee_cases.proofs.Instance.{sizes_sevens}

module _ (g : Geometry) (m : Mem) (z : Sizes g m) (some : 0 < g.segments) where
  abbrev before : Mem
  before = opened g m

  abbrev unstacked : Mem
  unstacked = record {
    control = before.control;
    mutators = before.mutators;
    heap = before.heap;
    segments = before.segments;
    stacks = replicate (len g Region.stacks) 0;
    bitmaps = before.bitmaps;
    marks = before.marks;
    trace = before.trace;
  }

  alike : SameButSummaries g before unstacked
  alike = record { control = refl; mutators = refl; heap = refl; tags = λ s. refl; classes = λ s. refl; places = λ s. refl; owners = λ s. refl; blocks = λ s b l u h. refl; marks = refl; trace = refl }

  -- segment 0 is free, and the free stack is empty
  not_summed : Summed g unstacked → ⊥
  not_summed c =
      let t : tag unstacked 0 ≡ Tag.free = opened_segment g m 0 in
      let i = c.free_segments.all 0 some (eq-eqb _ _ t) in
      let n : count g unstacked free_stack ≡ 0 = zeros_at (len g Region.stacks) (free_stack * (1 + g.segments)) in
      let l : i.0 < count g unstacked free_stack = i.1 in
      omega arith

  sound_alone : SoundAlone
  sound_alone =
      let s = sizes_opened g m z in
      record {
        geometry = g;
        memory = unstacked;
        sizes = record {
          control = s.control;
          mutators = s.mutators;
          segments = s.segments;
          stacks = length-replicate {A = ℕ} (len g Region.stacks) 0;
          bitmaps = s.bitmaps;
          marks = s.marks;
          trace = s.trace;
          heap = s.heap;
        };
        sound = (sound_together g before unstacked alike).0 (opened_consistent g m z).sound;
        unsummed = not_summed;
      }

-- of two segments of sevens
pub summed_apart : SoundAlone
summed_apart = sound_alone (geometry 2) (sevens (geometry 2)) (sizes_sevens (geometry 2)) (omega arith)
