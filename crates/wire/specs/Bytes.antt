-- Calls and answers as bytes: what a row of bytes is, and which bytes say an answer. Assumes nothing: these are definitions.
use Rattle.std.specs.Prelude.{◌≡◌, ℕ, zero, suc, ◌+◌, ◌*◌, ◌/◌, ◌%◌, ◌<◌, ◌≤◌, Bool, cond, ◌&&◌, List, [], ◌∷◌, ◌++◌, map, length, take, Some, None, Ok, Err, Option, Result, MatchResult, ◌==◌, nat_le, nat_lt, slice_index}
use Rattle.std.specs.List.{flat_map, AllByRecursion, slice_get}
use denote.Ref.{Bor}
use Rattle.rows.specs.Written.{written}
use Rattle.law.specs.Calls.{Call, born, wed, parted, dies, estate_of, unreadable, call_number, Share, Answer, refused, number, shares}
use Rattle.wire.specs.declared.Request.{Request}
use Rattle.wire.specs.declared.Request.TheVariants.{Born, Wed, Parted, Dies, EstateOf}
use Rattle.wire.specs.declared.Unreadable.{Unreadable}
use Rattle.wire.specs.declared.Kind.{Kind}
use Rattle.wire.specs.declared.Kind.TheVariants.{Born as BornKind, Wed as WedKind, Parted as PartedKind, Dies as DiesKind, EstateOf as EstateOfKind}
use Rattle.wire.specs.declared.Share.{Share as ShareStruct}
use Rattle.wire.specs.declared.SharesIn.{SharesIn}
use Rattle.wire.specs.declared.Answer.{Answer as AnswerEnum}
use Rattle.wire.specs.declared.Answer.TheVariants.{Refused, Number, Shares}

-- A number in four bytes and in eight, low byte first.
unfoldable pub le4 : ℕ → List ℕ
le4 n = (n % 256) ∷ (n / 256 % 256) ∷ (n / 65536 % 256) ∷ (n / 16777216 % 256) ∷ []

unfoldable pub le8 : ℕ → List ℕ
le8 n =
    (n % 256)
    ∷ (n / 256 % 256)
    ∷ (n / 65536 % 256)
    ∷ (n / 16777216 % 256)
    ∷ (n / 4294967296 % 256)
    ∷ (n / 1099511627776 % 256)
    ∷ (n / 281474976710656 % 256)
    ∷ (n / 72057594037927936 % 256)
    ∷ []

-- The number that stands in four bytes, and in eight, from a place on.
abbrev pub num4 : List ℕ → ℕ → ℕ
num4 bs i = slice_index bs i + slice_index bs (i + 1) * 256 + slice_index bs (i + 2) * 65536 + slice_index bs (i + 3) * 16777216

abbrev pub num8 : List ℕ → ℕ → ℕ
num8 bs i =
    slice_index bs i
    + slice_index bs (i + 1) * 256
    + slice_index bs (i + 2) * 65536
    + slice_index bs (i + 3) * 16777216
    + slice_index bs (i + 4) * 4294967296
    + slice_index bs (i + 5) * 1099511627776
    + slice_index bs (i + 6) * 281474976710656
    + slice_index bs (i + 7) * 72057594037927936

-- a row: a kind in one byte, values in four each, and more bytes
unfoldable pub row_bytes : ℕ → List ℕ → List ℕ → List ℕ
row_bytes k vs more = k ∷ (flat_map le4 vs ++ more)

-- Lent bytes after a row of bytes was written over them from the start, and its length. Where it is longer than they are, they stay as they were, and there is none.
abbrev pub laid_over : List ℕ → List ℕ → List ℕ
laid_over bs out = cond (nat_le (length bs) (length out)) (written 0 bs out) out

abbrev pub laid_length : List ℕ → List ℕ → Option ℕ
laid_length bs out = cond (nat_le (length bs) (length out)) (Some (length bs)) None

-- CALLS. A call's kind is its number, and these are its values.
abbrev pub call_values : Call → List ℕ
call_values (born m f) = m ∷ f ∷ []
call_values (wed a b) = a ∷ b ∷ []
call_values (parted a) = a ∷ []
call_values (dies a) = a ∷ []
call_values (estate_of a) = a ∷ []
call_values (unreadable n) = []

unfoldable pub call_bytes : Call → List ℕ
call_bytes c = row_bytes (call_number c) (call_values c) []

-- the call of a kind below 5 and its values, of which the last three kinds have one
abbrev pub call_with : ℕ → ℕ → ℕ → Call
call_with k a b = cond (k == 0) (born a b) (cond (k == 1) (wed a b) (cond (k == 2) (parted a) (cond (k == 3) (dies a) (estate_of a))))

-- how many bytes a call of a kind below 5 has, and of any kind: none for a kind that is no call's
abbrev pub call_size : ℕ → ℕ
call_size k = cond (nat_lt k 2) 9 5

abbrev pub call_length : ℕ → Option ℕ
call_length k = cond (nat_lt k 5) (Some (call_size k)) None

-- What a row of bytes is: a call, or unreadable from the first byte on that doesn't fit. That is the first, if there is none or its kind is no call's;
-- the end of a row that is too short; and in one that is too long the byte after the call.
abbrev pub read : List ℕ → Call
read bs =
    cond (nat_lt (slice_index bs 0) 5)
    (cond (nat_lt (length bs) (call_size (slice_index bs 0))) (unreadable (length bs))
    (cond (nat_lt (call_size (slice_index bs 0)) (length bs)) (unreadable (call_size (slice_index bs 0))) (call_with (slice_index bs 0) (num4 bs 1) (num4 bs 5))))
    (unreadable 0)

-- what the code's values stand for
abbrev pub call_of : Request → Call
call_of (Born m f) = born m f
call_of (Wed a b) = wed a b
call_of (Parted a) = parted a
call_of (Dies a) = dies a
call_of (EstateOf a) = estate_of a

abbrev pub call_from : Result Request Unreadable → Call
call_from (Ok q) = call_of q
call_from (Err e) = unreadable e.at

-- the number of a kind, and the kind of a call's first byte; a byte that begins no call is unreadable at once
abbrev pub kind_number : Kind → ℕ
kind_number BornKind = 0
kind_number WedKind = 1
kind_number PartedKind = 2
kind_number DiesKind = 3
kind_number EstateOfKind = 4

abbrev pub KindOf : ℕ → Result Kind Unreadable → Type 0
KindOf byte r = MatchResult r (λ k. kind_number k ≡ byte) (λ e. (5 ≤ byte) × (e.at ≡ 0))

-- ANSWERS. An answer's kind, its values in four bytes each, and the shares behind them, each who in four bytes, up and down in eight.
abbrev pub answer_kind : Answer → ℕ
answer_kind (refused n p) = 0
answer_kind (number n) = 1
answer_kind (shares ss) = 2

abbrev pub answer_values : Answer → List ℕ
answer_values (refused n p) = n ∷ p ∷ []
answer_values (number n) = n ∷ []
answer_values (shares ss) = length ss ∷ []

abbrev pub answer_shares : Answer → List Share
answer_shares (refused n p) = []
answer_shares (number n) = []
answer_shares (shares ss) = ss

unfoldable pub share_bytes : Share → List ℕ
share_bytes s = le4 s.who ++ (le8 s.up ++ le8 s.down)

abbrev pub answer_bytes : Answer → List ℕ
answer_bytes (refused n p) = row_bytes (answer_kind (refused n p)) (answer_values (refused n p)) []
answer_bytes (number n) = row_bytes (answer_kind (number n)) (answer_values (number n)) []
answer_bytes (shares ss) = row_bytes (answer_kind (shares ss)) (answer_values (shares ss)) (flat_map share_bytes ss)

-- what an answer of so many shares begins with, once some are written
abbrev pub shares_begun : ℕ → List Share → List ℕ
shares_begun k ss = row_bytes 2 (k ∷ []) (flat_map share_bytes ss)

-- what the code's values stand for
abbrev pub law_share : ShareStruct → Share
law_share s = record { who = s.who; up = s.up; down = s.down }

abbrev pub answer_of : AnswerEnum (Bor (List ShareStruct)) → Answer
answer_of (Refused n p) = refused n p
answer_of (Number n) = number n
answer_of (Shares ss) = shares (map law_share ss.now)

-- An answer goes into lent bytes where it is no longer than they are and has fewer than 2 to the 32nd shares, so that their count fits four bytes.
-- Else the bytes stay as they were, and there is no length.
abbrev pub answer_fits : Answer → List ℕ → Bool
answer_fits a out = nat_le (length (answer_bytes a)) (length out) && nat_lt (length (answer_shares a)) 4294967296

-- READING ANSWERS. A share from a place on, and so many one after the other.
abbrev pub share_at : List ℕ → ℕ → Share
share_at bs i = record { who = num4 bs i; up = num8 bs (i + 4); down = num8 bs (i + 12) }

unfoldable pub shares_from : List ℕ → ℕ → ℕ → List Share
shares_from bs i zero = []
shares_from bs i (suc n) = share_at bs i ∷ shares_from bs (i + 20) n

-- the answer that a row of bytes is; none where its kind is no answer's, or it is shorter or longer than that answer
abbrev pub answer_read : List ℕ → Option Answer
answer_read bs =
    cond (slice_index bs 0 == 0 && length bs == 9) (Some (refused (num4 bs 1) (num4 bs 5)))
    (cond (slice_index bs 0 == 1 && length bs == 5) (Some (number (num4 bs 1)))
    (cond (slice_index bs 0 == 2 && length bs == 5 + 20 * num4 bs 1) (Some (shares (shares_from bs 5 (num4 bs 1)))) None))

-- the share with an index in an answer of shares; none past the last, and in other answers
abbrev pub share_in : Option Answer → ℕ → Option Share
share_in None i = None
share_in (Some (refused n p)) i = None
share_in (Some (number n)) i = None
share_in (Some (shares ss)) i = slice_get ss i

-- what the code's values stand for, where they were read from bytes
abbrev pub answer_from : Option (AnswerEnum ℕ) → List ℕ → Option Answer
answer_from None bs = None
answer_from (Some (Refused n p)) bs = Some (refused n p)
answer_from (Some (Number n)) bs = Some (number n)
answer_from (Some (Shares n)) bs = Some (shares (shares_from bs 5 n))

abbrev pub share_from : Option ShareStruct → Option Share
share_from None = None
share_from (Some s) = Some (law_share s)

-- the shares of an answer that was read; none of other answers, and where there is none
abbrev pub read_shares : Option Answer → List Share
read_shares None = []
read_shares (Some a) = answer_shares a

-- the shares that an iterator over bytes has left
abbrev pub shares_left : SharesIn → List Share
shares_left s = shares_from s.rest.now 0 (length s.rest.now / 20)

-- READING BACK. What fits its bytes.
abbrev pub is_byte : ℕ → Type 0
is_byte n = n < 256

abbrev pub is_word : ℕ → Type 0
is_word n = n < 4294967296

abbrev pub share_fits : Share → Type 0
share_fits s = (s.who < 4294967296) × (s.up < 18446744073709551616) × (s.down < 18446744073709551616)

-- The bytes of a call are that call, and as many as its first byte says.
abbrev pub CallsReadBack : Type 0
CallsReadBack = (c : Call) → call_number c < 5 → AllByRecursion is_word (call_values c) → (read (call_bytes c) ≡ c) × (call_length (call_number c) ≡ Some (length (call_bytes c)))

-- The bytes of an answer are that answer.
abbrev pub AnswersReadBack : Type 0
AnswersReadBack = (a : Answer) → AllByRecursion is_word (answer_values a) → AllByRecursion share_fits (answer_shares a) → answer_read (answer_bytes a) ≡ Some a

-- A call begins with these bytes. The place of the first byte that doesn't fit: a call begins with those before it, and none with that one as well.
abbrev pub Begins : List ℕ → Type 0
Begins bs = (c : Call) × (rest : List ℕ) × (call_number c < 5) × (call_bytes c ≡ bs ++ rest)

abbrev pub FirstMisfit : List ℕ → ℕ → Type 0
FirstMisfit bs p = (p ≤ length bs) × Begins (take p bs) × (p < length bs → Begins (take (suc p) bs) → ⊥)

-- Bytes that are read as a call are that call's; all others are unreadable at the first that doesn't fit.
abbrev pub ReadsRightly : Type 0
ReadsRightly =
    (bs : List ℕ) → AllByRecursion is_byte bs →
    (call_number (read bs) < 5 → call_bytes (read bs) ≡ bs) × ((p : ℕ) → read bs ≡ unreadable p → FirstMisfit bs p)
