-- The numbers of a segment of each of the two sizes.
use Rattle.layout.specs.declared.Numbers.{Numbers}

abbrev pub small : Numbers
small = record { bytes = 16384; segment_words = 4096; most_blocks = 2048; stacks_per = 4102; total_per = 6294 }

abbrev pub large : Numbers
large = record { bytes = 32768; segment_words = 8192; most_blocks = 4096; stacks_per = 8198; total_per = 12568 }
