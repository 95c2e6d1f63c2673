-- The persons of all lines, with their names. Assumes nothing.
use Rattle.std.proofs.Common.{◌≡◌, ℕ, ◌+◌, ◌<◌, List, [], ◌∷◌, ◌++◌, length, get_or, take, drop, Ok, Err, vec_items, Result, sym, refl, ap, ◌∙◌, arith}
use Rattle.std.proofs.lemmas.List.{map_push, length-map, length_push, get_or-map, take_more, take_all}
use Rattle.std.proofs.lemmas.Result.{err_from_is_err_and, IfOk-from_err}
use Rattle.law.specs.Family as law
use Rattle.people.specs.Persons.{law_person}
use Rattle.people.specs.declared.Person.{Person}
use Rattle.lines.specs.Grammar.{said_by}
use Rattle.lines.specs.declared.Entry.{Entry}
use Rattle.text.specs.declared.Reason.{Reason}
use Rattle.text.specs.declared.Fault.{Fault}
use Rattle.text.specs.declared.Member.{Member}
use Rattle.text.specs.Households.{names_in, persons_of}
use Rattle.text.specs.Outcomes.{person_said, with_line}
use Rattle.text.specs.Reading.{fault, names_of, said_in, person_of, persons_in}
use Rattle.text.proofs.Failing.{told_line}
use Rattle.text.proofs.Persons.{persons_more, persons_fault, persons_all}
use Rattle.text.proofs.Places.{length-names, name_of_entry}
use Rattle.text.proofs.read_members.Goals as goal

-- the person that a line gave, or why it is refused
given : (i : ℕ) (r : Result Person Reason) (p : Person) (P : Result law.Person Reason) → Ok p ≡ with_line i r → person_said r ≡ P → Ok (law_person p) ≡ P
given i (Ok q) p P e h = let same : p ≡ q = cc in ap (λ (x : Person). Ok (law_person x)) same ∙ h
given i (Err r) p P e h = absurd (grind arith)

refused : (i : ℕ) (r : Result Person Reason) (e : Fault) (P : Result law.Person Reason) → Err e ≡ with_line i r → person_said r ≡ P → (x : Reason) × (Err x ≡ P) × (e ≡ fault i x)
refused i (Ok q) e P q' h = absurd (grind arith)
refused i (Err r) e P q' h = (r, h, cc)

module _ (es : List Entry) (i : ℕ) (d : Entry) (ms : List Member) (P : Result law.Family Fault) where
  -- what an entry says, among what all say
  same_line : i < length es → person_of (names_of (said_in es)) i (said_by (get_or es i d)) ≡ person_of (names_of (said_in es)) i (get_or (said_in es) i (said_by d))
  same_line h = ap (person_of (names_of (said_in es)) i) (sym (get_or-map (λ e. said_by e) es i d (said_by d) h))

  long : length ms ≡ i → length (persons_of ms) ≡ i
  long n = length-map ms (λ (m : Member). law_person m.person) ∙ n

  pub one_more : (later : List Member) (m : Member) → later ≡ ms ++ (m ∷ []) → i < length es → length ms ≡ i →
      Ok (law_person m.person) ≡ person_of (names_of (said_in es)) i (said_by (get_or es i d)) → persons_in (names_of (said_in es)) (drop i (said_in es)) (persons_of ms) ≡ P →
      persons_in (names_of (said_in es)) (drop (i + 1) (said_in es)) (persons_of later) ≡ P
  one_more later m q h n e inv =
      ap (persons_in (names_of (said_in es)) (drop (i + 1) (said_in es))) (ap persons_of q ∙ map_push (λ (x : Member). law_person x.person) ms m)
      ∙ persons_more (names_of (said_in es)) (said_in es) (persons_of ms) i P (said_by d) (law_person m.person) (omega (arith, length-map es (λ x. said_by x)))
      (long n) (e ∙ same_line h) inv

  pub one_name : (later : List Member) (m : Member) → later ≡ ms ++ (m ∷ []) → i < length es → m.name.now ≡ (get_or es i d).name.now →
      names_in ms ≡ take i (names_of (said_in es)) → names_in later ≡ take (i + 1) (names_of (said_in es))
  one_name later m q h e inv =
      ap names_in q
      ∙ (map_push (λ (x : Member). x.name.now) ms m
      ∙ ((λ k. inv k ++ ((e ∙ sym (name_of_entry es i d h)) k ∷ [])) ∙ sym (take_more (names_of (said_in es)) i [] (omega (arith, length-names es)))))

  pub faulty : (r : Reason) → i < length es → length ms ≡ i → Err r ≡ person_of (names_of (said_in es)) i (said_by (get_or es i d)) →
      persons_in (names_of (said_in es)) (drop i (said_in es)) (persons_of ms) ≡ P → Err (fault i r) ≡ P
  faulty r h n e inv =
      persons_fault (names_of (said_in es)) (said_in es) (persons_of ms) i P (said_by d) r (omega (arith, length-map es (λ x. said_by x))) (long n) (e ∙ same_line h) inv

pub loop-number-preserved : goal.loop-number-preserved
loop-number-preserved c =
    let es = c.args.entries.now in
    let ms = vec_items c.loop-number.members in
    let later = vec_items c.push.new.self in
    let P = persons_in (names_of (said_in es)) (said_in es) [] in
    record {
      value =
          one_more es c.loop-number.number _ ms P later _ c.in_ok-push.ensures.items (omega arith) c.loop-number.invariant.long
          (given c.loop-number.number c.person.result c.in_ok-person.person _ c.in_ok-person.ensures.value c.person.ensures.value) c.loop-number.invariant.value;
      long = (ap length c.in_ok-push.ensures.items ∙ length_push ms _) ∙ ap (λ (n : ℕ). n + 1) c.loop-number.invariant.long;
      names = one_name es c.loop-number.number _ ms P later _ c.in_ok-push.ensures.items (omega arith) refl c.loop-number.invariant.names;
    }

pub returns-in_err-person : goal.returns-in_err-person
returns-in_err-person c =
    let es = c.args.entries.now in
    let ms = vec_items c.loop-number.members in
    let P = persons_in (names_of (said_in es)) (said_in es) [] in
    let p = err_from_is_err_and c.from_residual.result c.from_residual.ensures.1 in
    let r = refused c.loop-number.number c.person.result c.in_err-person.field-0.0 _ c.in_err-person.ensures.value c.person.ensures.value in
    record {
      value =
          told_line _ c.from_residual.result P c.in_err-person.field-0.0 p
          (ap Err r.2 ∙ faulty es c.loop-number.number _ ms P r.0 (omega arith) c.loop-number.invariant.long r.1 c.loop-number.invariant.value);
      names = IfOk-from_err c.from_residual.result _ c.from_residual.ensures.0;
      few = IfOk-from_err c.from_residual.result _ c.from_residual.ensures.0;
    }

pub returns : goal.returns
returns c =
    let es = c.args.entries.now in
    let ms = vec_items c.loop-number.members in
    record {
      value =
          persons_all (names_of (said_in es)) (said_in es) (persons_of ms) c.loop-number.number (persons_in (names_of (said_in es)) (said_in es) [])
          (omega (arith, length-map es (λ x. said_by x))) c.loop-number.invariant.value;
      names = c.loop-number.invariant.names ∙ take_all c.loop-number.number (names_of (said_in es)) (omega (arith, length-names es));
      few = omega (arith, c.loop-number.invariant.long, c.requires.few);
    }
