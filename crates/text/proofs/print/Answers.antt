-- The text of a family. Assumes nothing.
use Rattle.std.proofs.Common.{◌≡◌, ℕ, List, [], ◌++◌, ap, ◌∙◌}
use Rattle.text.specs.declared.Member.{Member}
use Rattle.text.specs.Households.{names_in, persons_of, household}
use Rattle.text.specs.Reading.{read_family}
use Rattle.text.specs.Printing.{lines_for, text_lines, family_text, ReadsBack}
use Rattle.text.proofs.ReadBack.{reads_back}
use Rattle.text.proofs.print.Goals as goal

-- from nothing
shown : (text before : List ℕ) (ms ms' : List Member) → before ≡ [] → ms ≡ ms' →
    text ≡ before ++ text_lines (lines_for (names_in ms) (names_in ms) (persons_of ms)) → text ≡ text_lines (lines_for (names_in ms') (names_in ms') (persons_of ms'))
shown text before ms ms' e q t = t ∙ (λ i. e i ++ text_lines (lines_for (names_in (q i)) (names_in (q i)) (persons_of (q i))))

pub returns : goal.returns
unfolding family_text ReadsBack
returns c =
    let h = household c.args.family.now in
    let text = shown _ _ _ _ c.new-text.ensures.bytes c.as_slice.ensures.value c.in_ok-put_family.ensures.lines in
    record { lines = text; back = λ valid. ap read_family text ∙ reads_back h valid }
