-- What a register answers is read back from the bytes that were written. Assumes nothing.
use Rattle.std.proofs.Common.{◌≡◌, ℕ, ◌≤◌, Bool, List, ◌++◌, length, take, drop, Some, sym, ap, ◌∙◌, arith}
use Rattle.std.proofs.lemmas.List.{take_at, length-take-le}
use Rattle.rows.specs.Written.{written}
use Rattle.rows.proofs.Written.{written_front, written_whole, length-written}
use Rattle.wire.specs.Bytes.{read, answer_bytes, answer_read}
use Rattle.wire.proofs.ReadBack.{answers_read_back}
use Rattle.people.specs.Layout.{limit_in, Sound}
use Rattle.service.specs.Desks.{state, says, bytes_asked}
use Rattle.register.proofs.Fits.{says_fits}

-- bytes that were written from the start on
pub front_written : (bs out : List ℕ) (n : ℕ) → n ≡ length bs → n ≤ length out → take n (written 0 bs out) ≡ bs
front_written bs out n e h =
    ap (take n) (sym (written_front n 0 bs out (omega arith)) ∙ ap (λ r. r ++ drop n out) (written_whole bs (take n out) (omega (arith, length-take-le n out h))))
    ∙ take_at bs (drop n out) n (sym e)

-- The bytes after a call, of which the answer is the first so many: they suffice, and the answer is read back from them.
module _
    (can : ℕ → Bool) (ws row out later bytes : List ℕ) (size : ℕ) (ok : Sound ws) (room : bytes_asked (limit_in ws) ≤ length out)
    (long : size ≡ length (answer_bytes (says can (state ws) (read row)))) (said : later ≡ written 0 (answer_bytes (says can (state ws) (read row))) out)
    (value : bytes ≡ later)
  where
    pub says_room : size ≤ length bytes
    says_room =
        omega (
          arith,
          (says_fits can ws row ok).room,
          ap length value ∙ (ap length said ∙ length-written 0 (answer_bytes (says can (state ws) (read row))) out),
        )

    pub says_back : (n : ℕ) → n ≡ size → answer_read (take n bytes) ≡ Some (says can (state ws) (read row))
    says_back n e =
        let fits = says_fits can ws row ok in
        ap answer_read (ap (take n) (value ∙ said) ∙ front_written (answer_bytes (says can (state ws) (read row))) out n (e ∙ long) (omega (arith, fits.room)))
        ∙ answers_read_back (says can (state ws) (read row)) fits.values fits.fractions
