-- A list of calls, and the replies that the model's definitions give to it, each call from the memory that the one before it left.
use Rattle.std.specs.Prelude.{◌≡◌, List, [], ◌∷◌, ◌++◌, ℕ, zero, suc, ltb, take, drop, replicate}
use Rattle.basics.specs.Pick.{pick}
use Rattle.words.specs.Bits.{bit_of, bit_at, with_bit, set_bit, ones_among}
use Rattle.decimals.specs.Decimal.{digits_of, decimal}
use Rattle.layout.specs.declared.Geometry.{Geometry}
use Rattle.layout.specs.Geometry.{small_kib, large_kib, len, blocks_in, segment_bytes}
use Rattle.layout.specs.Mem.{Mem, set_control, set_mutator, set_segment, set_stack, set_trace, set_heap, set_run, spliced}
use Rattle.bitmap_search.specs.Scan.{next_free}
use Rattle.bitmap_write.specs.Rebuild.{word_from, packed, full_bit, summed, rebuilt}
use Rattle.bitmap_write.specs.Completed.{padded, completed, cleared, copied, fresh, adopted}
use Rattle.theory.specs.Phases.{Phase}
use Rattle.theory.specs.Calls.{Call, Answer, a_ok, a_no, require, if_record}
use Rattle.model.specs.declared.Step.{Step}
use Rattle.model.specs.declared.SegmentState.{SegmentState}
use Rattle.model.specs.Answers.{step_answer_of}
use Rattle.model.specs.Fields.{phase, trace_count, acks, class, kept_count, handed_count}
use Rattle.model.specs.Segments.{set_segment_state, segment, bitmap, in_use}
use Rattle.model.specs.Records.{header_shape, header_of, entered, set_entered, on_stack, marked}
use Rattle.model.specs.Tracing.{push, push_roots, push_pointers}
use Rattle.model.specs.Mutators.{acknowledged, attached, released, detached}
use Rattle.model.specs.Making.{handed_out, made}
use Rattle.model.specs.Calls.{act, exec}
use Rattle.model.specs.Collector.{collects, condemned, parts_emptied, acks_reset, started, start_of, outside_answered, waiting, lowest, settled_by, swept, step_of}
use Rattle.model.specs.Opening.{down_to0, opened}
use Rattle.model.specs.Sheet.{aligned, letter_of, bar, free_line, used_line, empty_after, lines_to, sheet_of}
use Rattle.layout.specs.Region as Region

-- an opening, one of the collector's calls, a look, the sheet, or a mutator's call; and words to be shown: both counts and the blocks in use of every segment, the
-- acknowledgements of the first mutators, a segment's first word of marks, the same with what is on the trace stack, its first word of level 0, and words of the heap
pub data Input : Type 0 where
  opening start step look sheet counts : Input
  call : Call → Input
  acknowledgements : (mutators : ℕ) → Input
  marks : (segment : ℕ) → Input
  entered_in : (segment : ℕ) → Input
  bits : (segment : ℕ) → Input
  heap : (from words : ℕ) → Input

-- an answer; what is seen of the memory: the phase, the segments' states, and the trace stack, its last entry last (which no look of document 01
-- shows); and words
pub data Reply : Type 0 where
  answer : Answer → Reply
  seen : Phase → List SegmentState → List ℕ → Reply
  words : List ℕ → Reply

-- the states of the first n segments
abbrev pub states : Mem → ℕ → List SegmentState
states m zero = []
states m (suc n) = states m n ++ segment m n ∷ []

abbrev pub shown : Geometry → Mem → Reply
shown g m = seen (phase m) (states m g.segments) (take (trace_count m) m.trace)

-- kept, handed out since, and in use by place and bits, of each of the first n segments
abbrev pub counts_of : Geometry → Mem → ℕ → List ℕ
counts_of g m zero = []
counts_of g m (suc n) = counts_of g m n ++ kept_count m n ∷ handed_count m n ∷ in_use g m n ∷ []

-- the acknowledgements of the first n mutators
abbrev pub acks_of : Mem → ℕ → List ℕ
acks_of m zero = []
acks_of m (suc n) = acks_of m n ++ acks m n ∷ []

abbrev pub answered : Answer × Mem → Reply × Mem
answered r = (answer r.0, r.1)

-- an answer of step, as its enum has it
abbrev pub stepped : Step → Reply
stepped r = answer (step_answer_of r)

-- a bit of each of the first 32 blocks of a segment, by the word of a block's head
abbrev pub block_bits : Geometry → Mem → ℕ → (ℕ → ℕ) → List ℕ
block_bits g m s bit = packed (λ b. pick (ltb b (blocks_in g (class m s))) (bit (header_of g s (class m s) b)) 0) 1 0

-- one input: its reply, and the memory after it
abbrev pub does : Geometry → Mem → Input → Reply × Mem
does g m opening = (answer a_ok, opened g m)
does g m start = answered (start_of g m)
does g m step = answered (step_of g m)
does g m look = (shown g m, m)
does g m sheet = (words (sheet_of g m), m)
does g m counts = (words (counts_of g m g.segments), m)
does g m (call c) = answered (exec g m c)
does g m (acknowledgements n) = (words (acks_of m n), m)
does g m (marks s) = (words (block_bits g m s (marked g m)), m)
does g m (entered_in s) = (words (block_bits g m s (entered g m)), m)
does g m (bits s) = (words (take 1 (bitmap g m s)), m)
does g m (heap i n) = (words (take n (drop i m.heap)), m)

-- the replies to a list of inputs, in order; to unfold it is to unfold every definition that it stands on
unfoldable pub replies : Geometry → Mem → List Input → List Reply
unfolding segment_bytes header_shape bit_of bit_at with_bit set_bit ones_among set_control set_mutator set_segment set_stack set_trace set_heap set_run spliced next_free word_from packed full_bit summed rebuilt padded completed cleared copied fresh adopted require if_record set_segment_state set_entered on_stack push push_roots push_pointers acknowledged attached released detached handed_out made act exec collects condemned parts_emptied acks_reset started start_of outside_answered waiting lowest settled_by swept step_of down_to0 opened digits_of decimal aligned letter_of bar free_line used_line empty_after lines_to sheet_of
replies g m [] = []
replies g m (e ∷ es) = let r = does g m e in r.0 ∷ replies g r.1 es

-- so many segments of 16 KiB
abbrev pub geometry : ℕ → Geometry
geometry n = record { segments = n; kib = small_kib }

-- and of 32 KiB
abbrev pub large_geometry : ℕ → Geometry
large_geometry n = record { segments = n; kib = large_kib }

-- lent memory of the right lengths, in which every word is 7
abbrev pub sevens : Geometry → Mem
sevens g = record {
  control = replicate (len g Region.control) 7;
  mutators = replicate (len g Region.mutators) 7;
  segments = replicate (len g Region.segments) 7;
  stacks = replicate (len g Region.stacks) 7;
  bitmaps = replicate (len g Region.bitmaps) 7;
  marks = replicate (len g Region.marks) 7;
  trace = replicate (len g Region.trace) 7;
  heap = replicate (len g Region.heap) 7;
}

-- ---- a case: lines of an input and its reply, "input left, output right"

pub data Line : Type 0 where
  ◌⇒◌ : Input → Reply → Line

infix 80 ◌⇒◌
abbrev pub inputs : List Line → List Input
inputs [] = []
inputs ((e ⇒ r) ∷ ls) = e ∷ inputs ls

abbrev pub outputs : List Line → List Reply
outputs [] = []
outputs ((e ⇒ r) ∷ ls) = r ∷ outputs ls

-- from so many segments of sevens on, each input of the case gets its reply
abbrev pub Holds : ℕ → List Line → Type 0
Holds n ls = replies (geometry n) (sevens (geometry n)) (inputs ls) ≡ outputs ls

abbrev pub ok : Reply
ok = answer a_ok

-- refused with a number
abbrev pub no : ℕ → Reply
no n = answer (a_no n)
