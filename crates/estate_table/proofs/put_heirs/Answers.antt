use Rattle.std.proofs.Common.{◌≡◌, ℕ, List, ◌++◌, vec_items, string_bytes, sym, ap, ◌∙◌, ap₂, arith}
use Rattle.std.proofs.lemmas.List.{append-nil}
use Rattle.why.specs.Explained.{LinePart, explanations, parts_to, ways_to, share_for}
use Rattle.why.specs.declared.Fraction.{Fraction}
use Rattle.why.proofs.Sums.{held_ways, pieces_fit, sum_right}
use Rattle.reason_lines.specs.Lines.{names_of}
use Rattle.reason_lines.proofs.Texts.{two}
use Rattle.estate_table.specs.Tables.{heir_lines, heirs_lines}
use Rattle.estate_table.proofs.Tables.{row_more}
use Rattle.estate_table.proofs.put_heirs.Goals as goal

pub loop-who-init : goal.loop-who-init
loop-who-init c = λ f d formed divided. sym (append-nil (string_bytes c.args.text.now))

pub loop-who-preserved : goal.loop-who-preserved
loop-who-preserved c = λ f d formed divided.
    let ns = names_of c.args.names.now in
    let w = c.loop-who.who in
    let e = c.args.estate.now in
    let r = c.in_ok-reasons.reasons in
    let g : ℕ → List ℕ = λ v. heir_lines ns v (share_for f d v) (ways_to f d v) in
    let parts : explanations (vec_items r.parts) ≡ ways_to f d w = c.in_ok-reasons.ensures.parts ∙ ap (parts_to w) (held_ways f d e divided) in
    let sum : r.sum ≡ share_for f d w = c.in_ok-reasons.ensures.sum (pieces_fit f d w e formed divided) ∙ sum_right f d w e divided in
    two (string_bytes c.args.text.now) (string_bytes c.loop-who.text) (string_bytes c.put_heir.new.text) (heirs_lines ns f d w) (g w) (c.loop-who.invariant f d formed divided)
    (c.in_ok-put_heir.ensures.lines ∙ ap₂ (λ (x : Fraction) (xs : List LinePart). string_bytes c.loop-who.text ++ heir_lines ns w x xs) sum parts)
    ∙ ap (λ (bs : List ℕ). string_bytes c.args.text.now ++ bs) (sym (row_more g w))

pub returns : goal.returns
returns c =
    record {
      lines = λ f d formed divided.
          c.loop-who.invariant f d formed divided
          ∙ ap (λ (n : ℕ). string_bytes c.args.text.now ++ heirs_lines (names_of c.args.names.now) f d n) (let z : c.loop-who.who ≡ c.args.count = omega arith in z);
    }
