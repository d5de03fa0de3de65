-- A level 0 made a tree: of free blocks, or of given marks. Document 01: of a free segment that is taken, "whose blocks' bits
-- are all 0"; of a sweep, "its level 0 becomes the marks, upper levels rebuilt"; "Bits past a level's end are 1."
use Rattle.std.specs.Prelude.{◌≡◌, ◌⊎◌, List, ◌++◌, ℕ, ◌-◌, ◌*◌, ◌/◌, ◌%◌, ◌^◌, eqb, ltb, get_or, set, take, drop, replicate}
use Rattle.std.specs.Int.Bits.{bit_or}
use Rattle.basics.specs.Pick.{pick}
use Rattle.words.specs.Levels.{words_for}
use Rattle.words.specs.Bits.{bit_of, bit_at}
use Rattle.bitmap_write.specs.Rebuild.{word_from, packed, rebuilt}

-- the bits past the end of a level of n bits are 1: those of its last word from bit n % 32 on, if it is not whole
unfoldable pub padded : ℕ → List ℕ → List ℕ
padded n ws = pick (eqb (n % 32) 0) ws (set ws (n / 32) (bit_or (get_or ws (n / 32) 0) (2 ^ 32 - 2 ^ (n % 32))))

-- a tree over the n bits that stand at level 0
unfoldable pub completed : ℕ → ℕ → List ℕ → List ℕ
completed above n ws = rebuilt above n (padded n ws)

-- the first m words are 0
unfoldable pub cleared : ℕ → List ℕ → List ℕ
cleared m ws = replicate m 0 ++ drop m ws

-- the first m words are those of another list
unfoldable pub copied : ℕ → List ℕ → List ℕ → List ℕ
copied m vs ws = take m vs ++ drop m ws

-- every step-th bit of a list of words, n of them; past them 0; and these in words (in no statement: contracts and proofs use both)
unfoldable pub gathered_bit : List ℕ → ℕ → ℕ → ℕ → ℕ
gathered_bit ws step n b = pick (ltb b n) (bit_at ws (b * step)) 0

abbrev pub gathered : List ℕ → ℕ → ℕ → List ℕ
gathered ws step n = packed (gathered_bit ws step n) (words_for n) 0

-- every step-th bit of one word, side by side: `count` of them (in no statement: contracts and proofs use it)
abbrev pub pressed : ℕ → ℕ → ℕ → ℕ
pressed step count x = word_from (λ i. bit_of x (i * step)) count 0

-- the steps that divide a word so, and how many of its bits a word has then (in no statement: contracts and proofs use it)
abbrev pub Pressable : ℕ → ℕ → Type 0
Pressable step count = ((step ≡ 1) × (count ≡ 32)) ⊎ (((step ≡ 2) × (count ≡ 16)) ⊎ (((step ≡ 4) × (count ≡ 8)) ⊎ ((step ≡ 8) × (count ≡ 4))))

-- n bits are gathered bit by bit, or by whole words (in no statement: contracts and proofs use it)
abbrev pub Ways : ℕ → ℕ → ℕ → Type 0
Ways n step count = (count ≡ 0) ⊎ ((n % 32 ≡ 0) × Pressable step count)

-- a tree of n bits that are all 0
unfoldable pub fresh : ℕ → ℕ → List ℕ → List ℕ
fresh above n ws = completed above n (cleared (words_for n) ws)

-- a tree of n bits that are the marks
unfoldable pub adopted : ℕ → ℕ → List ℕ → List ℕ → List ℕ
adopted above n marks ws = completed above n (copied (words_for n) marks ws)
