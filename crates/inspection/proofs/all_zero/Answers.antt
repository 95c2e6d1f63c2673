use Rattle.std.proofs.Common.{◌≡◌, ℕ, ◌+◌, ◌-◌, ◌<◌, ◌≤◌, Bool, true, false, List, length, get_or, take, drop, sym, ap, ◌∙◌, arith, rules, length-take, length-drop}
use borrow.Author.Tests.{tests}
use mathlib.Core.Bool.{false≢true}
use Rattle.std.specs.Bool.{MatchBool}
use Rattle.std.specs.List.{AllWithin, HoldsAt}
use Rattle.std.proofs.lemmas.List.{get_or-take, get_or-drop}
use Rattle.std.proofs.lemmas.List.Elements.{All-from_get_or}
use Rattle.std.proofs.lemmas.Iterator.{YieldsList-from_slice, cases_from_all}
use Rattle.std.proofs.lemmas.Iterator.Search.{true_from_All}
use Rattle.inspection.specs.Words.{Zeros}
use Rattle.inspection.proofs.all_zero.Goals as goal

abbrev IsZero : ℕ → Type 0
IsZero w = w ≡ 0

abbrev NotZero : ℕ → Type 0
NotZero w = w ≡ 0 → ⊥

-- what is said of the words of a part, and of all its places
module _ (ws : List ℕ) (from end : ℕ) (order : from ≤ end) (room : end ≤ length ws) where
  abbrev part : List ℕ
  part = take (end - from) (drop from ws)

  long : length part ≡ end - from
  long = simp (length-take, length-drop) (omega arith)

  at : (i : ℕ) → i < end - from → get_or part i 0 ≡ get_or ws (from + i) 0
  at i h = get_or-take (end - from) (drop from ws) i 0 h ∙ get_or-drop from ws i 0

  zeros_from : (r : Bool) → MatchBool r (AllWithin IsZero part 0 (length part)) ((i : ℕ) × (i < length part) × HoldsAt NotZero part i) → r ≡ true → Zeros ws from end
  zeros_from true within e i h l =
      let place : i ≡ from + (i - from) = omega arith in
      ap (λ j. get_or ws j 0) place ∙ sym (at (i - from) (omega arith)) ∙ within (i - from) 0 (omega arith) (omega (arith, long))
  zeros_from false none e i h l = absurd (false≢true e)

  zeros_to : (r : Bool) → MatchBool r (AllWithin IsZero part 0 (length part)) ((i : ℕ) × (i < length part) × HoldsAt NotZero part i) → Zeros ws from end → r ≡ true
  zeros_to r cases zeros =
      true_from_All IsZero NotZero r part (λ w yes no. no yes) cases
      (All-from_get_or IsZero part 0 (λ i h. let l : i < end - from = omega (arith, long) in at i l ∙ zeros (from + i) (omega arith) (omega arith)))

pub returns-clause-yes : goal.returns-clause-yes
returns-clause-yes c =
    zeros_from c.args.memory.now c.args.from c.args.end c.requires.order c.requires.room c.all.result
    (cases_from_all c.all.new.self _ c.all.result IsZero NotZero c.all.ensures.ran (YieldsList-from_slice _ c.iter.ensures.rest) (λ x q call. search (rules, tests))
    (λ x q call. search (rules, tests)))

pub returns-clause-no : goal.returns-clause-no
returns-clause-no c =
    zeros_to c.args.memory.now c.args.from c.args.end c.requires.order c.requires.room c.all.result
    (cases_from_all c.all.new.self _ c.all.result IsZero NotZero c.all.ensures.ran (YieldsList-from_slice _ c.iter.ensures.rest) (λ x q call. search (rules, tests))
    (λ x q call. search (rules, tests)))
