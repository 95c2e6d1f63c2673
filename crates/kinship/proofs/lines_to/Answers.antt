use Rattle.std.proofs.Common.{◌≡◌, ℕ, ◌<◌, Bool, List, map, length, vec_items, sym, ap, ◌∙◌, arith}
use Rattle.std.specs.List.{range_with_len}
use Rattle.std.proofs.lemmas.List.{length-map}
use Rattle.std.proofs.lemmas.Result.{IfOk-weaker}
use Rattle.law.specs.Family.{Family, line_lives}
use Rattle.theory.specs.Families.{Ranked}
use Rattle.theory.proofs.Families.{ranked_same}
use Rattle.people.specs.Persons.{law_person}
use Rattle.people.specs.declared.Person.{Person}
use Rattle.ways.specs.Rows.{family_of, in_row}
use Rattle.ways.proofs.Marks.{row_right}
use Rattle.kinship.specs.Forebears.{only_lives, LinesTo}
use Rattle.kinship.proofs.Forebears.{only_parents}
use Rattle.kinship.proofs.Forebears as forebears
use Rattle.kinship.proofs.lines_to.Goals as goal

-- the row of the family in which nobody else lives
row_to : (f : Family) (w n : ℕ) (only : List Person) (row : List Bool) (rk : ℕ → ℕ) → Ranked f rk → w < length f → n ≡ length f → family_of only ≡ only_lives f w →
    row ≡ map (line_lives (family_of only) n) (range_with_len 0 (length only)) → LinesTo f w (in_row row)
row_to f w n only row rk s there size same made p =
    let g : Family = only_lives f w in
    let ranked : Ranked g rk = ranked_same f g rk (only_parents f w) s in
    let long : length only ≡ length g = sym (length-map only law_person) ∙ ap length same in
    let right : in_row row p ≡ line_lives g (length f) p =
    row_right g (length f) ranked row
    (made ∙ ap (λ (h : Family). map (line_lives h n) (range_with_len 0 (length only))) same ∙ ap (λ (m : ℕ). map (line_lives g m) (range_with_len 0 (length only))) size
    ∙ ap (λ (m : ℕ). map (line_lives g (length f)) (range_with_len 0 m)) long) p in
    let to = forebears.lines_to f w s there p in
    (λ e. to.0 (sym right ∙ e), λ h. right ∙ to.1 h)

pub returns : goal.returns
returns c =
    let size = length-map c.args.family.now law_person in
    record {
      value =
          IfOk-weaker c.living_lines.result _ _
          (λ v e rk s there.
          row_to (family_of c.args.family.now) c.args.who (length c.args.family.now) c.deref.result.now (vec_items v) rk s (omega arith) (sym size)
          (ap family_of c.deref.ensures.value ∙ c.in_ok-only.ensures.value) e)
          c.living_lines.ensures.value;
    }
