-- The calls in a file, and the lines that answer them. Assumes nothing: these are definitions.
use Rattle.std.specs.Prelude.{ℕ, zero, suc, Bool, cond, ◌&&◌, List, [], ◌∷◌, ◌++◌, length, take, drop, Some, None, codes, decimal, Option, nat_le, nat_lt, slice_index}
use Rattle.std.specs.List.{flat_map}
use Rattle.law.specs.Calls.{Call, Share, Answer, refused, number, shares, Limits}
use Rattle.law.specs.Promise.{Memory, Desk}
use Rattle.wire.specs.Bytes.{call_size, read}
use Rattle.service.specs.Desks.{state, limits_of, desk}
use Rattle.register.specs.Stores.{words_in}
use Rattle.register.specs.declared.session.Register.{Register}
use Rattle.report.specs.declared.Rows.{Rows}

-- How many bytes the next call of a file has: as many as its first byte says. All that are left, where that byte is no call's or fewer are left.
abbrev pub row_size : List ℕ → ℕ
row_size bs = cond (nat_lt (slice_index bs 0) 5 && nat_le (call_size (slice_index bs 0)) (length bs)) (call_size (slice_index bs 0)) (length bs)

-- The calls in a file's bytes, in order. The number bounds how many; as many as there are bytes are enough.
unfoldable pub calls_in : ℕ → List ℕ → List Call
calls_in n [] = []
calls_in zero (b ∷ bs) = []
calls_in (suc n) (b ∷ bs) = read (take (row_size (b ∷ bs)) (b ∷ bs)) ∷ calls_in n (drop (row_size (b ∷ bs)) (b ∷ bs))

abbrev pub file_calls : List ℕ → List Call
file_calls bs = calls_in (length bs) bs

-- the calls that an iterator over a file's rows has left
abbrev pub calls_left : Rows → List Call
calls_left s = file_calls s.rest.now

-- The lines of a refusal and its place, and of a number.
abbrev pub refusal_line : ℕ → ℕ → List ℕ
refusal_line n p = codes "refused " ++ (decimal n ++ (codes " at " ++ (decimal p ++ (10 ∷ []))))

abbrev pub number_line : ℕ → List ℕ
number_line n = decimal n ++ (10 ∷ [])

-- The line of an heir: what they are called, and the share as a fraction.
abbrev pub heir_line : (ℕ → List ℕ) → Share → List ℕ
heir_line named s = named s.who ++ (codes " " ++ (decimal s.up ++ (codes "/" ++ (decimal s.down ++ (10 ∷ [])))))

-- The lines of an estate: each heir's, or that there is none.
abbrev pub heirs_lines : (ℕ → List ℕ) → List Share → List ℕ
heirs_lines named [] = codes "no heirs" ++ (10 ∷ [])
heirs_lines named (s ∷ ss) = flat_map (heir_line named) (s ∷ ss)

-- The lines of an answer in which heirs are called so.
abbrev pub answer_by : (ℕ → List ℕ) → Answer → List ℕ
answer_by named (refused n p) = refusal_line n p
answer_by named (number n) = number_line n
answer_by named (shares ss) = heirs_lines named ss

-- of bytes that may be no answer
abbrev pub text_by : (ℕ → List ℕ) → Option Answer → List ℕ
text_by named None = []
text_by named (Some a) = answer_by named a

-- The same where heirs are called by their numbers.
abbrev pub share_line : Share → List ℕ
share_line s = heir_line decimal s

abbrev pub estate_lines : List Share → List ℕ
estate_lines ss = heirs_lines decimal ss

abbrev pub answer_text : Answer → List ℕ
answer_text a = answer_by decimal a

abbrev pub text_of : Option Answer → List ℕ
text_of o = text_by decimal o

-- the memory of a register
module _ {S : Type 0} where
  abbrev pub memory_of : Register S → Memory
  memory_of r = state (words_in r.store.now)

-- What a desk's answers to calls are as lines, one call after the other.
unfoldable pub printed : Desk → Memory → List Call → List ℕ
printed d m [] = []
printed d m (c ∷ cs) = answer_text (d.says m c) ++ printed d (d.next m c) cs

-- The lines that answer a file: those of a new register for 64 persons and the calls of a stage, behind whose words nothing lies.
abbrev pub file_limits : (ℕ → Bool) → Limits
file_limits can = limits_of can 64

abbrev pub file_lines : (ℕ → Bool) → List ℕ → List ℕ
file_lines can bs = printed (desk can []) ((desk can []).opened (file_limits can)) (file_calls bs)
