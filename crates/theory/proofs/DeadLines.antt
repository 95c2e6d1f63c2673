-- One more person who does not live, and who is nobody's parent, changes nobody's part. Assumes nothing.
use Rattle.std.proofs.Common.{◌≡◌, ℕ, suc, ◌-◌, ◌*◌, ◌<◌, Bool, true, false, cond, not, ◌&&◌, ◌||◌, eqb, ◌≢◌, List, [], ◌∷◌, ◌++◌, length, sym, refl, ap, ◌∙◌, ap₂, ⊎_elim, arith}
use Rattle.std.specs.List.{flat_map, AllByRecursion}
use Rattle.std.proofs.lemmas.List.{append-nil, length_push, get_or_push, get_or_append_left, set_at}
use Rattle.std.proofs.lemmas.List.Elements.{filter-append}
use Rattle.std.proofs.ByRecursion.{All-weaker}
use Rattle.std.proofs.lemmas.Bool.{cases_eq, cond_both}
use Rattle.law.specs.Family.{Person, person, Family, nobody, is_child, children, some_of, line_lives, living_lines, Part, line_parts, known, parents, has_living_spouse, estate}
use Rattle.law.specs.Calls.{born, dies, Limits, refusal, newborn, dead, changed, after}
use Rattle.law.specs.Promise.{DeadLines}
use Rattle.theory.specs.Families.{Ranked}
use Rattle.theory.specs.Living.{lines_below}
use Rattle.theory.specs.Statements.{DeadPersonChangesNothing, DeadChildChangesNothing}
use Rattle.theory.proofs.Lists.{all_any, some_cong, some_none, some_append, kept_cong, kept_empty, joined_cong}
use Rattle.theory.proofs.Refusals.{after_taken, after_refused, by_rules, born_taken, dies_taken, dies_allowed}
use Rattle.theory.proofs.Families.{past_nobody, person_push, push_ranked, well_formed_reached}
use Rattle.theory.proofs.Children.{children_child, parents_parent, child_more, children_push}
use Rattle.theory.proofs.Lines.{decedent_line, below_child, descend, line_lives_other, line_lives_past, line_parts_law}
use Rattle.theory.proofs.Orders.{estates_alike}

module _ {f : Family} {rk rk' : ℕ → ℕ} (x : Person) (s : Ranked f rk) (t : Ranked (f ++ x ∷ []) rk') (v : x.lives ≡ false) (d : ℕ) where
  abbrev g : Family
  g = f ++ x ∷ []

  -- the new one, where they are a child of p
  last : ℕ → List ℕ
  last p = cond (eqb x.mother (suc p) || eqb x.father (suc p)) (length f ∷ []) []

  last_child : (p : ℕ) (P : ℕ → Type 0) → (is_child g p (length f) ≡ true → P (length f)) → AllByRecursion P (last p)
  unfolding last
  last_child p P h =
      cond_both (eqb x.mother (suc p) || eqb x.father (suc p)) (length f ∷ []) [] (AllByRecursion P)
      (λ e. (h (ap (λ (z : Person). eqb z.mother (suc p) || eqb z.father (suc p)) (get_or_push f x nobody (length f) refl) ∙ e), tt)) (λ _. tt)

  children_last : (p : ℕ) → children g p ≡ children f p ++ last p
  unfolding last
  children_last p = children_push f x p

  lives_same : (p : ℕ) → (person g p).lives ≡ (person f p).lives
  lives_same p =
      person_push f x p (λ (z : Person). z.lives ≡ (person f p).lives) (λ _. refl) (λ e. v ∙ sym (ap (λ (z : Person). z.lives) (past_nobody f p (omega arith))))
      (λ l. sym (ap (λ (z : Person). z.lives) (past_nobody f p (omega arith))))

  push_lives : (p : ℕ) → line_lives g d p ≡ line_lives f d p
  push_lives = descend t (λ p. line_lives g d p ≡ line_lives f d p) step
    where
      step : (p : ℕ) → ((c : ℕ) → is_child g p c ≡ true → line_lives g d c ≡ line_lives f d c) → line_lives g d p ≡ line_lives f d p
      step p ih =
          ⊎_elim (λ (e : p ≡ d). ap (λ (z : ℕ). line_lives g d z) e ∙ (decedent_line g d ∙ sym (ap (λ (z : ℕ). line_lives f d z) e ∙ decedent_line f d)))
          (λ (n : p ≡ d → ⊥).
          line_lives_other t d p n
          ∙ (ap₂ (λ (a : Bool) (cs : List ℕ). a || some_of (λ c. line_lives g d c) cs) (lives_same p) (children_last p)
          ∙ (ap (λ (a : Bool). (person f p).lives || a)
          (some_append (λ c. line_lives g d c) (children f p) (last p)
          ∙ (ap₂ (λ (a b : Bool). a || b) old new ∙ or_false (some_of (λ c. line_lives f d c) (children f p))))
          ∙ sym (line_lives_other s d p n))))
          (cases_eq p d)
        where
          old : some_of (λ c. line_lives g d c) (children f p) ≡ some_of (λ c. line_lives f d c) (children f p)
          old = some_cong (λ c. line_lives g d c) (λ c. line_lives f d c) (children f p)
              (All-weaker (λ c. is_child f p c ≡ true) (λ c. line_lives g d c ≡ line_lives f d c) (λ c k. ih c (child_more f x p c k)) (children f p) (children_child f p))

          new : some_of (λ c. line_lives g d c) (last p) ≡ false
          new = some_none (λ c. line_lives g d c) (last p) (last_child p (λ c. line_lives g d c ≡ false) (λ k. ih (length f) k ∙ line_lives_past s d (length f) (omega arith)))

          or_false : (a : Bool) → (a || false) ≡ a
          or_false true = refl
          or_false false = refl

  push_below : (p : ℕ) → lines_below g d p ≡ lines_below f d p
  push_below p =
      ap (λ (cs : List ℕ). living_lines g d cs) (children_last p)
      ∙ (filter-append (λ c. line_lives g d c) (children f p) (last p)
      ∙ (ap₂ (λ (a b : List ℕ). a ++ b)
      (kept_cong (λ c. line_lives g d c) (λ c. line_lives f d c) (children f p) (all_any (λ c. line_lives g d c ≡ line_lives f d c) push_lives (children f p)))
      (kept_empty (λ c. line_lives g d c) (last p)
      (some_none (λ c. line_lives g d c) (last p) (last_child p (λ c. line_lives g d c ≡ false) (λ k. push_lives (length f) ∙ line_lives_past s d (length f) (omega arith)))))
      ∙ append-nil (lines_below f d p)))

  push_parts : (p b : ℕ) → line_parts g d p b ≡ line_parts f d p b
  push_parts = descend t (λ p. (b : ℕ) → line_parts g d p b ≡ line_parts f d p b) step
    where
      step : (p : ℕ) → ((c : ℕ) → is_child g p c ≡ true → (b : ℕ) → line_parts g d c b ≡ line_parts f d c b) → (b : ℕ) → line_parts g d p b ≡ line_parts f d p b
      step p ih b =
          let k = b * length (lines_below f d p) in
          line_parts_law t d p b
          ∙ (ap₂ (λ (a : Bool) (ws : List ℕ). cond (not (eqb p d) && a) (record { who = p; by = b } ∷ []) (flat_map (λ c. line_parts g d c (b * length ws)) ws)) (lives_same p) (push_below p)
          ∙ (ap (λ (z : List Part). cond (not (eqb p d) && (person f p).lives) (record { who = p; by = b } ∷ []) z)
          (joined_cong (λ c. line_parts g d c k) (λ c. line_parts f d c k) (lines_below f d p)
          (All-weaker (λ c. is_child f p c ≡ true) (λ c. line_parts g d c k ≡ line_parts f d c k) (λ c h. ih c (child_more f x p c h) k) (lines_below f d p) (below_child f d p)))
          ∙ sym (line_parts_law s d p b)))

  pub estate_push : d < length f → estate g d ≡ estate f d
  estate_push l =
      sym (estates_alike (λ (a b : List Part). a ≡ b) refl (λ a b c e p q. ap₂ (λ (y z : List Part). y ++ z) p q) f g d push_lives (λ p b. sym (push_parts p b)) (parents_old d l)
      (All-weaker (λ q. is_child f q d ≡ true) (λ q. parents g q ≡ parents f q) (λ q k. parents_old q (s.here q d k)) (parents f d) (parents_parent f d)) (push_below d) spouse_same
      (ap (λ (z : Person). z.spouse) (old d l)) (λ _ b. refl))
    where
      old : (p : ℕ) → p < length f → person g p ≡ person f p
      old p h = get_or_append_left f (x ∷ []) nobody p h

      parents_old : (p : ℕ) → p < length f → parents g p ≡ parents f p
      parents_old p h = ap (λ (z : Person). known z.mother ++ known z.father) (old p h)

      spouse_same : has_living_spouse g d ≡ has_living_spouse f d
      spouse_same =
          ap (λ (z : Person). not (eqb z.spouse 0) && (person g (z.spouse - 1)).lives) (old d l)
          ∙ ap (λ (a : Bool). not (eqb (person f d).spouse 0) && a) (lives_same ((person f d).spouse - 1))

pub dead_person_changes_nothing : DeadPersonChangesNothing
unfolding DeadPersonChangesNothing
dead_person_changes_nothing f rk x d s m e v l = estate_push x s (push_ranked f x m e rk s).1 v d l

-- a birth and that child's death
module _ (l : Limits) (f : Family) (m e : ℕ) (can : l.calls_can 3 ≡ true) where
  born_and_died : refusal l f (born m e) ≡ 0 → after l (after l f (born m e)) (dies (length f)) ≡ f ++ dead (newborn m e) ∷ []
  unfolding changed
  born_and_died r =
      ap (λ (h : Family). after l h (dies (length f))) (after_taken l f (born m e) r)
      ∙ (after_taken l g (dies (length f)) (dies_allowed l g (length f) can (omega (arith, length_push f (newborn m e))) (ap (λ (z : Person). z.lives) here))
      ∙ (set_at f (newborn m e) [] (dead (person g (length f))) (length f) refl ∙ ap (λ (z : Person). f ++ dead z ∷ []) here))
    where
      g : Family
      g = f ++ newborn m e ∷ []

      here : person g (length f) ≡ newborn m e
      here = get_or_push f (newborn m e) nobody (length f) refl

  -- a birth that is refused brings nobody who could die
  not_born : refusal l f (born m e) ≢ 0 → after l (after l f (born m e)) (dies (length f)) ≡ f
  not_born r = ap (λ (h : Family). after l h (dies (length f))) (after_refused l f (born m e) r) ∙ after_refused l f (dies (length f)) gone
    where
      gone : refusal l f (dies (length f)) ≢ 0
      gone z = let t = dies_taken l f (length f) (by_rules l f (dies (length f)) z) in omega arith

pub dead_child_changes_nothing : DeadChildChangesNothing
unfolding DeadChildChangesNothing
dead_child_changes_nothing l f rk d m e s h can =
    ⊎_elim
    (λ (r : refusal l f (born m e) ≡ 0).
    let t = born_taken l f m e (by_rules l f (born m e) r) in
    ap (λ (k : Family). estate k d) (born_and_died l f m e can r)
    ∙ estate_push (dead (newborn m e)) s (push_ranked f (dead (newborn m e)) t.0 t.1 rk s).1 refl d h)
    (λ (r : refusal l f (born m e) ≡ 0 → ⊥). ap (λ (k : Family). estate k d) (not_born l f m e can r)) (cases_eq (refusal l f (born m e)) 0)

pub dead_lines : DeadLines
unfolding DeadLines DeadChildChangesNothing
dead_lines l f d m e r h _ can _ _ = let w = well_formed_reached l f r in dead_child_changes_nothing l f w.rank d m e w.ranked h can
