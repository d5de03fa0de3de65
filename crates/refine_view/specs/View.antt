-- The memory seen as theory's abstract machine: a block is named by the word of its header. Only proofs use it.
use Rattle.std.specs.Prelude.{Bool, not, ◌&&◌, List, [], ◌∷◌, ℕ, zero, suc, ◌-◌, ◌%◌, eqb}
use Rattle.layout.specs.declared.Geometry.{Geometry}
use Rattle.layout.specs.Geometry.{segment_words, segment_of}
use Rattle.layout.specs.Mem.{Mem, trace_word}
use Rattle.theory.specs.TraceStack.{tab}
use Rattle.theory.specs.Machine.{State}
use Rattle.model.specs.Fields.{phase, trace_count, acks, root, tag, class}
use Rattle.model.specs.Segments.{used_bit}
use Rattle.classes.specs.Class.{block_words}
use Rattle.model.specs.Records.{record?, pointer_count, value_count, pointer, value, block_of}
use Rattle.model.specs.Calls.{is_attached, is_inside}
use Rattle.model.specs.Reaching.{is_marked}
use Rattle.model.specs.Tag as Tag

-- the first n entries of the trace stack, the last entered first
abbrev pub stack_of : Mem → ℕ → List ℕ
stack_of m zero = []
stack_of m (suc n) = (trace_word m n - 1) ∷ stack_of m n

-- the data fields of the record at a word
abbrev pub values_of : Mem → ℕ → List ℕ
values_of m at = tab (value_count m at) (value m at)

-- whether a word is the first of a block
abbrev pub is_head : Geometry → Mem → ℕ → Bool
is_head g m at = eqb (at % segment_words g % block_words (class m (segment_of g at))) 0

abbrev pub is_used : Geometry → Mem → ℕ → Bool
is_used g m at = not (eqb (tag m (segment_of g at)) Tag.free) && eqb (used_bit g m (segment_of g at) (block_of g m at)) 1

abbrev pub view : Geometry → Mem → State
view g m = record {
  pointer_count = pointer_count m;
  pointer = λ at f. record? (pointer m at f);
  values = values_of m;
  used = is_used g m;
  condemned = λ s. eqb (tag m s) Tag.condemned;
  marked = λ at. is_head g m at && is_marked g m at;
  stack = stack_of m (trace_count m);
  attached = is_attached m;
  inside = is_inside m;
  acks = acks m;
  root = λ k i. record? (root m k i);
  phase = phase m;
}
