-- Bytes that are text, and names. Assumes nothing.
use Rattle.std.proofs.Common.{◌≡◌, ℕ, true, List, IsUtf8}
use lib.Utf8.{encodes, scalars}
use Rattle.std.proofs.lemmas.Slice.Eq.{bytes_eq-Decides}
use Rattle.std.proofs.lemmas.Bool.{and_from, and_parts}
use Rattle.std.proofs.lemmas.Str.{scalars-chars, encodes-chars}
use Rattle.std.specs.Str.{bytes_eq, chars}
use Rattle.lines.specs.Names.{is_text}

pub text_from_utf8 : (bs : List ℕ) → IsUtf8 bs → is_text bs ≡ true
unfolding is_text
text_from_utf8 bs u =
    and_from (scalars (chars bs)) (bytes_eq (encodes (chars bs)) bs) (scalars-chars bs u) ((bytes_eq-Decides (encodes (chars bs)) bs).1 (encodes-chars bs u))

pub utf8_from_text : (bs : List ℕ) → is_text bs ≡ true → IsUtf8 bs
unfolding is_text
utf8_from_text bs e =
    let p = and_parts (scalars (chars bs)) (bytes_eq (encodes (chars bs)) bs) e in (chars bs, (p.0, (bytes_eq-Decides (encodes (chars bs)) bs).0 p.1))
