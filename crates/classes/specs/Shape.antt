-- The shape of a segment of a class: its blocks and the levels of their bitmap. Document 01: "segments of 16,384 bytes",
-- "Class c, 3 to 12, has blocks of 2^c bytes", and the table of blocks and bitmap levels; document 02, No. 2: "Classes 13 (two
-- blocks a segment) and 14 (one block) are added"; No. 6: "Segments of 32 KiB".
use Rattle.std.specs.Prelude.{ℕ, ◌-◌, ◌/◌, ◌^◌, get_or, Some, None}
use Rattle.std.specs.declared.option.Option.{Option}
use Rattle.basics.specs.Pick.{pick}
use Rattle.words.specs.Levels.{level_count, level_words, tree_words}
use Rattle.classes.specs.Class.{first_class, class_test}
use Rattle.classes.specs.declared.SegmentShape.{SegmentShape}

-- the bytes of a segment of 16 KiB
abbrev pub segment_size : ℕ
segment_size = 16384

-- and of one of 32 KiB
abbrev pub large_size : ℕ
large_size = 32768

-- how many blocks of class c a segment of z bytes has
abbrev pub blocks_of : ℕ → ℕ → ℕ
blocks_of z c = z / 2 ^ c

-- a bitmap has three levels at most
abbrev pub most_levels : ℕ
most_levels = 3

-- the shape of a segment of n blocks
abbrev pub shape_for : ℕ → SegmentShape
shape_for n = record {
  blocks = n;
  levels = level_count most_levels n;
  words0 = get_or (level_words most_levels n) 0 0;
  words1 = get_or (level_words most_levels n) 1 0;
  words2 = get_or (level_words most_levels n) 2 0;
}

-- the words of the largest bitmap of a segment of z bytes, which is that of the first class
abbrev pub longest_of : ℕ → ℕ
longest_of z = tree_words (level_count most_levels (blocks_of z first_class) - 1) (blocks_of z first_class)

-- the shape of a class, or none: there is no such class (in no statement: contracts, evaluated cases and proofs use it)
abbrev pub ClassShape : Type 0
ClassShape = Option SegmentShape

-- the shape of a segment of z bytes of class c, where there is such a class (in no statement: contracts, evaluated cases and proofs use it)
abbrev pub segment_shape : ℕ → ℕ → ClassShape
segment_shape z c = pick (class_test c) (Some (shape_for (blocks_of z c))) None
