-- Walking along the lines among which what comes to somebody is divided: the links met are those of the list of these lines. Assumes nothing.
use Rattle.std.proofs.Common.{◌≡◌, ℕ, suc, ◌+◌, ◌<◌, ◌≤◌, true, false, ◌⊎◌, List, [], ◌∷◌, ◌++◌, length, get_or, drop, filter, sym, refl, ap, ◌∙◌, subst, ⊎_elim, Option, None, arith}
use Rattle.std.specs.List.{AllByRecursion}
use Rattle.std.specs.Iterator.{Yields}
use Rattle.std.proofs.lemmas.List.{drop_more, drop_all, append-nil, length-drop}
use Rattle.std.proofs.ByRecursion.{all_kept_by, All-drop}
use Rattle.std.proofs.lemmas.List.Sums.{length-filter, count_by-le-length}
use Rattle.std.proofs.lemmas.Bool.{cases_lt, cond-true, cond-false, cond_both}
use Rattle.law.specs.Family.{Family, person, children}
use Rattle.theory.specs.Living.{alive, lines_below}
use Rattle.children.specs.Links.{first_of}
use Rattle.children.proofs.Children.{children_there, length-children}
use Rattle.amounts.specs.Lines.{divided_among}
use Rattle.living.specs.Places.{Held}
use Rattle.passes.specs.Walking.{Before, Ahead, Stepped}
use Rattle.passes.specs.declared.Walk.{Walk}

pub first_none : first_of [] ≡ 0
unfolding first_of
first_none = refl

-- lines below are of persons who are there, and no more than these
pub lines_there : (f : Family) (p : ℕ) → AllByRecursion (λ c. c < length f) (divided_among f p)
lines_there f p =
    cond_both (person f p).lives [] (lines_below f (length f) p) (AllByRecursion (λ c. c < length f)) (λ _. tt)
    (λ _. all_kept_by (alive f) (λ c. c < length f) (children f p) (children_there f p))

pub lines_few : (f : Family) (p : ℕ) → length (divided_among f p) ≤ length f
lines_few f p =
    cond_both (person f p).lives [] (lines_below f (length f) p) (λ ds. length ds ≤ length f) (λ _. omega arith)
    (λ _. omega (arith, length-filter (alive f) (children f p), count_by-le-length (alive f) (children f p), length-children f p))

-- the first of what is left of a list
left_first : (ds : List ℕ) (i c : ℕ) (qs : List ℕ) → c ∷ qs ≡ drop i ds → (i < length ds) × (get_or ds i 0 ≡ c) × (qs ≡ drop (i + 1) ds)
left_first ds i c qs e =
    ⊎_elim (λ (h : i < length ds). let m : c ∷ qs ≡ get_or ds i 0 ∷ drop (i + 1) ds = e ∙ drop_more ds i 0 h in (h, (cc), cc))
    (λ (h : length ds ≤ i). let m : c ∷ qs ≡ [] = e ∙ drop_all i ds h in cc) (cases_lt i (length ds))

-- by the link, what is left of a list of persons who are there
rest_none : (k n link : ℕ) (cs : List ℕ) → k ≤ n → link ≡ first_of cs → AllByRecursion (λ c. c < k) cs → (link ≡ 0) ⊎ (n < link) → cs ≡ []
unfolding first_of
rest_none k n link [] room e there end = refl
rest_none k n link (c ∷ cs) room e there end =
    let some : link ≡ suc c = e in
    let below = there.0 in
    absurd (⊎_elim (λ z. omega arith) (λ z. omega arith) end)

first_left : (cs : List ℕ) (j c : ℕ) → first_of (drop j cs) ≡ suc c → drop j cs ≡ c ∷ drop (j + 1) cs
unfolding first_of
first_left cs j c e =
    ⊎_elim
    (λ (h : j < length cs).
    let m = drop_more cs j 0 h in
    let s : suc (get_or cs j 0) ≡ suc c = sym (ap first_of m) ∙ e in
    let same : get_or cs j 0 ≡ c = omega arith in m ∙ ap (λ x. x ∷ drop (j + 1) cs) same)
    (λ (h : length cs ≤ j). let z : 0 ≡ suc c = sym (ap first_of (drop_all j cs h)) ∙ e in absurd (omega arith)) (cases_lt j (length cs))

-- a walk begins before all of somebody's lines
pub ahead_all :
    (f : Family) (w : Walk) (j : ℕ) → w.link ≡ first_of (drop j (children f w.who)) → divided_among f w.who ≡ filter (alive f) (drop j (children f w.who)) → length f ≤ w.turns →
    Ahead f w (divided_among f w.who)
ahead_all f w j link all turns =
    record {
      last = (0, refl);
      left = (j, record { link = link; turns = omega (arith, length-drop j (children f w.who), length-children f w.who) }, all);
    }

-- where the line that comes next stands among all
pub ahead_at : (f : Family) (w : Walk) (c : ℕ) (qs : List ℕ) → Ahead f w (c ∷ qs) →
    (i : ℕ) × (i < length (divided_among f w.who)) × (get_or (divided_among f w.who) i 0 ≡ c) × (qs ≡ drop (i + 1) (divided_among f w.who))
ahead_at f w c qs a = let m = left_first (divided_among f w.who) a.last.0 c qs a.last.1 in (a.last.0, m.0, m.1, m.2)

pub ahead_there : (f : Family) (w : Walk) (ds : List ℕ) → Ahead f w ds → AllByRecursion (λ c. c < length f) ds
ahead_there f w ds a = subst (AllByRecursion (λ c. c < length f)) (sym a.last.1) (All-drop (λ c. c < length f) a.last.0 (divided_among f w.who) (lines_there f w.who))

-- a link to nobody: there is no child; a link to somebody: they are the first
pub before_none : (f : Family) (n : ℕ) (w : Walk) (j : ℕ) → length f ≤ n → Before f w j → (w.link ≡ 0) ⊎ (n < w.link) → drop j (children f w.who) ≡ []
before_none f n w j room b end = rest_none (length f) n w.link (drop j (children f w.who)) room b.link (All-drop (λ c. c < length f) j (children f w.who) (children_there f w.who)) end

pub before_some : (f : Family) (w : Walk) (j c : ℕ) → Before f w j → w.link ≡ suc c → drop j (children f w.who) ≡ c ∷ drop (j + 1) (children f w.who)
before_some f w j c b link = first_left (children f w.who) j c (sym b.link ∙ link)

-- a walk that went on to a child
pub before_next :
    (f : Family) (w v : Walk) (c j : ℕ) → Before f w j → v.who ≡ w.who → v.turns + 1 ≡ w.turns → drop j (children f w.who) ≡ c ∷ drop (j + 1) (children f w.who) →
    v.link ≡ first_of (drop (j + 1) (children f w.who)) → Before f v (j + 1)
before_next f w v c j b who turns first link =
    let most = b.turns in
    let one : length (drop j (children f w.who)) ≡ suc (length (drop (j + 1) (children f w.who))) = ap length first in
    record {
      link = link ∙ ap (λ p. first_of (drop (j + 1) (children f p))) (sym who);
      turns = subst (λ p. length (drop (j + 1) (children f p)) ≤ v.turns) (sym who) (omega arith);
    }

-- a child whose line lives is the first of the lines ahead; another is passed over; where no child is left, no line is
pub ahead_lives :
    (f : Family) (w v : Walk) (ds : List ℕ) (c : ℕ) (a : Ahead f w ds) → v.who ≡ w.who → drop a.left.0 (children f w.who) ≡ c ∷ drop (a.left.0 + 1) (children f w.who) →
    Before f v (a.left.0 + 1) → alive f c ≡ true → (qs : List ℕ) × (ds ≡ c ∷ qs) × Ahead f v qs
ahead_lives f w v ds c a who first b lives =
    let j = a.left.0 in
    let cs = children f w.who in
    let qs = filter (alive f) (drop (j + 1) cs) in
    let e : ds ≡ c ∷ qs = a.left.2 ∙ ap (filter (alive f)) first ∙ cond-true (alive f c) (c ∷ qs) qs lives in
    let m = left_first (divided_among f w.who) a.last.0 c qs (sym e ∙ a.last.1) in (
      qs,
      e,
      record {
        last = (a.last.0 + 1, m.2 ∙ ap (λ p. drop (a.last.0 + 1) (divided_among f p)) (sym who));
        left = (j + 1, b, ap (λ p. filter (alive f) (drop (j + 1) (children f p))) (sym who));
      },
    )

pub ahead_passed :
    (f : Family) (w v : Walk) (ds : List ℕ) (c : ℕ) (a : Ahead f w ds) → v.who ≡ w.who → drop a.left.0 (children f w.who) ≡ c ∷ drop (a.left.0 + 1) (children f w.who) →
    Before f v (a.left.0 + 1) → alive f c ≡ false → Ahead f v ds
ahead_passed f w v ds c a who first b none =
    let j = a.left.0 in
    let cs = children f w.who in
    let qs = filter (alive f) (drop (j + 1) cs) in
    let e : ds ≡ qs = a.left.2 ∙ ap (filter (alive f)) first ∙ cond-false (alive f c) (c ∷ qs) qs none in
    record {
      last = (a.last.0, a.last.1 ∙ ap (λ p. drop a.last.0 (divided_among f p)) (sym who));
      left = (j + 1, b, e ∙ ap (λ p. filter (alive f) (drop (j + 1) (children f p))) (sym who));
    }

pub ahead_over : (f : Family) (w : Walk) (ds : List ℕ) (a : Ahead f w ds) → drop a.left.0 (children f w.who) ≡ [] → ds ≡ []
ahead_over f w ds a none = a.left.2 ∙ ap (filter (alive f)) none

-- what an iterator over somebody's lines gave, and what it has ahead
module _ {S : Type 0} (words : S → List ℕ) (walk : S → Walk) where
  abbrev pub GoesOn : S → Option ℕ → S → Type 0
  GoesOn s r t = (words t ≡ words s) × Stepped (words s) (walk s) r (walk t)

  walked :
      (f : Family) (n : ℕ) (work rest xs ds : List ℕ) (s t : S) → Yields GoesOn s xs t → Held (words s) n f (alive f) work rest → Ahead f (walk s) ds →
      (words t ≡ words s) × ((qs : List ℕ) × (ds ≡ xs ++ qs) × Ahead f (walk t) qs)
  walked f n work rest [] ds s t y held a =
      (ap words (sym y), (ds, refl, subst (λ z. Ahead f (walk z) ds) y a))
  walked f n work rest (x ∷ xs) ds s t (u, step, y) held a =
      let on = step.1.next n f work rest ds held a in
      let w = walked f n work rest xs on.0 u t y (subst (λ z. Held z n f (alive f) work rest) (sym step.0) held) on.2 in
      (w.0 ∙ step.0, (w.1.0, on.1 ∙ ap (λ z. x ∷ z) w.1.1, w.1.2))

  -- nothing more came: all were given
  pub all_walked :
      (f : Family) (n : ℕ) (work rest xs ds : List ℕ) (s t u : S) → Yields GoesOn s xs t → GoesOn t None u → Held (words s) n f (alive f) work rest → Ahead f (walk s) ds → xs ≡ ds
  all_walked f n work rest xs ds s t u y none held a =
      let w = walked f n work rest xs ds s t y held a in
      let over = none.1.next n f work rest w.1.0 (subst (λ z. Held z n f (alive f) work rest) (sym w.0) held) w.1.2 in
      sym (w.1.1 ∙ ap (λ qs. xs ++ qs) over ∙ append-nil xs)
