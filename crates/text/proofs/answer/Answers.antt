-- A spouse who answers. Assumes nothing.
use Rattle.std.proofs.Common.{◌≡◌, ℕ, zero, suc, ◌+◌, ◌-◌, List, [], ◌∷◌, length, get_or, set, Ok, sym, refl, ap, ◌∙◌, arith}
use Rattle.std.proofs.lemmas.List.{length-map, map-set}
use Rattle.law.specs.Family as law
use Rattle.law.specs.Calls.{with_spouse}
use Rattle.people.specs.Persons.{law_person}
use Rattle.text.specs.declared.Member.{Member}
use Rattle.text.specs.Households.{persons_of, names_in}
use Rattle.text.proofs.Spouses.{nobody_there, person_there, answered_none, answered_new, answered_past, answered_same, answered_other}
use Rattle.text.proofs.answer.Goals as goal

many : (ms : List Member) → length (persons_of ms) ≡ length ms
many ms = length-map ms (λ (m : Member). law_person m.person)

spouse_there : (ms : List Member) (i : ℕ) → (law.person (persons_of ms) i).spouse ≡ (get_or ms i nobody_there).person.spouse
spouse_there ms i = ap (λ (p : law.Person). p.spouse) (person_there ms i)

-- a member with the same name in their place
same_names : (ms : List Member) (i : ℕ) (m : Member) → m.name.now ≡ (get_or ms i nobody_there).name.now → names_in (set ms i m) ≡ names_in ms
same_names [] i m e = refl
same_names (x ∷ ms) zero m e = ap (λ (n : List ℕ). n ∷ names_in ms) e
same_names (x ∷ ms) (suc i) m e = ap (λ (ns : List (List ℕ)). x.name.now ∷ ns) (same_names ms i m e)

pub returns-in_default-clause-left : goal.returns-in_default-clause-left
returns-in_default-clause-left c =
    let ms = c.args.members.now in
    let i = c.args.index in
    answered_none (persons_of ms) i (spouse_there ms i ∙ omega (arith, c.in_default.ensures))

pub returns-then-place-members-clause-left : goal.returns-then-place-members-clause-left
returns-then-place-members-clause-left c =
    let ms = c.args.members.now in
    let i = c.args.index in
    let s = c.in-Some.ensures in
    answered_past (persons_of ms) i (get_or ms i nobody_there).person.spouse (spouse_there ms i) (omega arith) (omega (arith, many ms))

pub returns-then-theirs-eq0-clause-left : goal.returns-then-theirs-eq0-clause-left
returns-then-theirs-eq0-clause-left c =
    let ms = c.args.members.now in
    let i = c.args.index in
    let s = (get_or ms i nobody_there).person.spouse in
    let more : i + 1 ≡ suc i = omega arith in
    let place = c.in-Some.place in
    let less : place ≡ s - 1 = c.in-Some.ensures.1 in
    let f = persons_of ms in
    ap Ok (map-set (λ (m : Member). law_person m.person) ms place _ ∙ (λ k. set f place (with_spouse (sym (person_there ms place) k) (more k))))
    ∙ (ap (λ (k : ℕ). Ok (set f k (with_spouse (law.person f k) (suc i)))) less
    ∙ answered_new f i s (spouse_there ms i) (omega (arith, c.in-Some.ensures.0))
    (ap (λ (k : ℕ). (law.person f k).spouse) (sym less) ∙ (spouse_there ms place ∙ c.if-theirs-eq0.true)))

pub returns-then-theirs-eq0-clause-names : goal.returns-then-theirs-eq0-clause-names
returns-then-theirs-eq0-clause-names c = same_names c.args.members.now c.in-Some.place _ refl

pub returns-then-theirs-me-clause-left : goal.returns-then-theirs-me-clause-left
returns-then-theirs-me-clause-left c =
    let ms = c.args.members.now in
    let i = c.args.index in
    let s = (get_or ms i nobody_there).person.spouse in
    let theirs : (law.person (persons_of ms) (s - 1)).spouse ≡ (get_or ms c.in-Some.place nobody_there).person.spouse = ap (λ (k : ℕ). (law.person (persons_of ms) k).spouse) (sym c.in-Some.ensures.1) ∙ spouse_there ms c.in-Some.place in
    answered_same (persons_of ms) i s (get_or ms c.in-Some.place nobody_there).person.spouse (spouse_there ms i) (omega (arith, c.in-Some.ensures.0)) theirs c.if-theirs-eq0.false (omega (arith, c.if-theirs-me.true))

pub returns-else-theirs-me-clause-left : goal.returns-else-theirs-me-clause-left
returns-else-theirs-me-clause-left c =
    let ms = c.args.members.now in
    let i = c.args.index in
    let s = (get_or ms i nobody_there).person.spouse in
    let theirs : (law.person (persons_of ms) (s - 1)).spouse ≡ (get_or ms c.in-Some.place nobody_there).person.spouse = ap (λ (k : ℕ). (law.person (persons_of ms) k).spouse) (sym c.in-Some.ensures.1) ∙ spouse_there ms c.in-Some.place in
    answered_other (persons_of ms) i s (get_or ms c.in-Some.place nobody_there).person.spouse (spouse_there ms i) (omega (arith, c.in-Some.ensures.0)) theirs c.if-theirs-eq0.false
    (λ z. c.if-theirs-me.false (omega (arith, z)))
