-- What a user is told in a run.
use Rattle.std.proofs.Common.{◌≡◌, ℕ, Bool, true, false, cond, List, [], ◌∷◌, ◌++◌, length, refl, sym, ap, ◌∙◌, arith}
use Rattle.std.specs.Prelude.{filter, map, reverse}
use Rattle.std.proofs.lemmas.List.{reverse-append, reverse-reverse, map-append, append-nil}
use Rattle.std.proofs.lemmas.List.Elements.{filter-append}
use Rattle.tab_key.specs.Records.{Cell}
use Rattle.tab_history.specs.Bases.{new_core}
use Rattle.tab_history.specs.Answers.{Told}
use Rattle.tab_history.specs.Histories.{Entry, World, world_of, is_by, steps_of, journal}
use Rattle.tab_history.specs.Legal.{Legal}
use Rattle.tab_history.specs.declared.event.Step.{Step}
use Rattle.tab_noninterference.specs.Hearing.{Heard, is_covered, list_opened, heard}
use Rattle.tab_noninterference.proofs.EqualViews.{two_worlds}
use Rattle.tab_store.specs.Chains.{IsExactRun}
use Rattle.tab_core.specs.Slots.{entries_of, history_of}
use Rattle.tab_core.specs.Comparing.{those_of, replies_to, covered_replies, IsToldIn, IsTold, LookAlike, TellAlike, Compares}

-- ---- lists turned round
reverse_cons : {X : Type 0} (x : X) (xs : List X) → reverse (x ∷ xs) ≡ reverse xs ++ x ∷ []
reverse_cons x xs = reverse-append (x ∷ []) xs

map_reverse : {X Y : Type 0} (f : X → Y) (xs : List X) → map f (reverse xs) ≡ reverse (map f xs)
map_reverse f [] = refl
map_reverse f (x ∷ xs) = ap (map f) (reverse_cons x xs) ∙ map-append f (reverse xs) (x ∷ []) ∙ ap (λ l. l ++ f x ∷ []) (map_reverse f xs) ∙ sym (reverse_cons (f x) (map f xs))

one_more : {X : Type 0} (b : Bool) (x : X) (xs : List X) → reverse xs ++ cond b (x ∷ []) [] ≡ reverse (cond b (x ∷ xs) xs)
one_more true x xs = sym (reverse_cons x xs)
one_more false x xs = append-nil (reverse xs)

filter_reverse : {X : Type 0} (p : X → Bool) (xs : List X) → filter p (reverse xs) ≡ reverse (filter p xs)
filter_reverse p [] = refl
filter_reverse p (x ∷ xs) = ap (filter p) (reverse_cons x xs) ∙ filter-append p (reverse xs) (x ∷ []) ∙ ap (λ l. l ++ filter p (x ∷ [])) (filter_reverse p xs) ∙ one_more (p x) x (filter p xs)

-- ---- entries, the first one first
abbrev steps_in : List Entry → List Step
steps_in es = map (λ e. e.step) es

abbrev replies_in : List Entry → List Told
replies_in es = map (λ e. e.reply) es

abbrev those_in : (Step → Bool) → List Entry → List Entry
those_in test es = filter (λ e. test e.step) es

steps_in_entries : (steps : List Step) (replies : List Told) → length replies ≡ length steps → steps_in (entries_of steps replies) ≡ steps
steps_in_entries [] [] same = refl
steps_in_entries (s ∷ ss) [] same = absurd (omega (arith, same))
steps_in_entries [] (r ∷ rs) same = refl
steps_in_entries (s ∷ ss) (r ∷ rs) same = ap (λ l. s ∷ l) (steps_in_entries ss rs (omega (arith, same)))

-- the replies to the entries that pass are those of the steps that pass
those_of_in : (test : Step → Bool) (es : List Entry) → those_of test (steps_in es) (replies_in es) ≡ replies_in (those_in test es)
those_of_in test [] = refl
those_of_in test (e ∷ es) = go (test e.step) (those_of_in test es)
  where
    go : (b : Bool) → those_of test (steps_in es) (replies_in es) ≡ replies_in (those_in test es)
        → cond b (e.reply ∷ those_of test (steps_in es) (replies_in es)) (those_of test (steps_in es) (replies_in es)) ≡ replies_in (cond b (e ∷ those_in test es) (those_in test es))
    go true h = ap (λ l. e.reply ∷ l) h
    go false h = h

those_of_entries : (test : Step → Bool) (steps : List Step) (replies : List Told) → those_of test steps replies ≡ replies_in (those_in test (entries_of steps replies))
those_of_entries test [] replies = refl
those_of_entries test (s ∷ ss) [] = refl
those_of_entries test (s ∷ ss) (r ∷ rs) = go (test s) (those_of_entries test ss rs)
  where
    go : (b : Bool) → those_of test ss rs ≡ replies_in (those_in test (entries_of ss rs))
        → cond b (r ∷ those_of test ss rs) (those_of test ss rs) ≡ replies_in (cond b (record { step = s; reply = r } ∷ those_in test (entries_of ss rs)) (those_in test (entries_of ss rs)))
    go true h = ap (λ l. r ∷ l) h
    go false h = h

-- ---- a history of steps with their replies
its_steps : (steps : List Step) (replies : List Told) → length replies ≡ length steps → steps_of (history_of steps replies) ≡ steps
its_steps steps replies same = ap reverse (map_reverse (λ e. e.step) (entries_of steps replies)) ∙ reverse-reverse (steps_in (entries_of steps replies)) ∙ steps_in_entries steps replies same

its_replies : (user : List ℕ) (steps : List Step) (replies : List Told) → replies_to user (history_of steps replies) ≡ those_of (is_by user) steps replies
its_replies user steps replies =
    let es : List Entry = entries_of steps replies in
    ap (λ l. reverse (replies_in l)) (filter_reverse (λ e. is_by user e.step) es)
    ∙ ap reverse (map_reverse (λ e. e.reply) (those_in (is_by user) es))
    ∙ reverse-reverse (replies_in (those_in (is_by user) es))
    ∙ sym (those_of_entries (is_by user) steps replies)

-- ---- the covered replies
-- what is heard, lists aside, is the covered ones of the replies to the user
heard_replies : (user : List ℕ) (w : World) (h : List Entry) → map (λ x. x.reply) (heard user w h) ≡ replies_in (those_in is_covered (those_in (is_by user) h))
unfolding heard
heard_replies user w [] = refl
heard_replies user w (e ∷ es) = by_whom (is_by user e.step) (heard_replies user w es)
  where
    list : List Cell
    list = list_opened w.base (journal w es) e.step e.reply

    rest : List Entry
    rest = those_in (is_by user) es

    by_cover : (covered : Bool) → map (λ x. x.reply) (heard user w es) ≡ replies_in (those_in is_covered rest)
        → map (λ x. x.reply) (cond covered (record { reply = e.reply; list = list } ∷ []) [] ++ heard user w es) ≡ replies_in (cond covered (e ∷ those_in is_covered rest) (those_in is_covered rest))
    by_cover true h = ap (λ l. e.reply ∷ l) h
    by_cover false h = h

    by_whom : (his : Bool) → map (λ x. x.reply) (heard user w es) ≡ replies_in (those_in is_covered rest)
        → map (λ x. x.reply) (cond his (cond (is_covered e.step) (record { reply = e.reply; list = list } ∷ []) [] ++ heard user w es) (heard user w es)) ≡ replies_in (those_in is_covered (cond his (e ∷ rest) rest))
    by_whom true h = by_cover (is_covered e.step) h
    by_whom false h = h

steps_those : (test : Step → Bool) (es : List Entry) → filter test (steps_in es) ≡ steps_in (those_in test es)
steps_those test [] = refl
steps_those test (e ∷ es) = go (test e.step) (steps_those test es)
  where
    go : (b : Bool) → filter test (steps_in es) ≡ steps_in (those_in test es) → cond b (e.step ∷ filter test (steps_in es)) (filter test (steps_in es)) ≡ steps_in (cond b (e ∷ those_in test es) (those_in test es))
    go true h = ap (λ l. e.step ∷ l) h
    go false h = h

-- in a history, the covered ones of the replies to the user are what he hears, lists aside
covered_heard : (user : List ℕ) (w : World) (h : List Entry) → covered_replies user (steps_of h) (replies_to user h) ≡ reverse (map (λ x. x.reply) (heard user w h))
covered_heard user w h =
    let his : List Entry = those_in (is_by user) h in
    ap (λ l. those_of is_covered l (replies_to user h)) (filter_reverse (is_by user) (steps_in h) ∙ ap reverse (steps_those (is_by user) h) ∙ sym (map_reverse (λ e. e.step) his))
    ∙ ap (those_of is_covered (steps_in (reverse his))) (sym (map_reverse (λ e. e.reply) his))
    ∙ those_of_in is_covered (reverse his)
    ∙ ap replies_in (filter_reverse (λ e. is_covered e.step) his)
    ∙ map_reverse (λ e. e.reply) (those_in is_covered his)
    ∙ ap reverse (sym (heard_replies user w h))

-- so it is of what the user was told in a run
covered_in : (user : List ℕ) (steps : List Step) (told : List Told) (h : List Entry) → IsToldIn h user steps told → covered_replies user steps told ≡ reverse (map (λ x. x.reply) (heard user (world_of new_core) h))
covered_in user steps told h is = (λ i. covered_replies user (sym is.steps_are i) (sym is.replies i)) ∙ covered_heard user (world_of new_core) h

-- ---- two runs
-- what was told in a run of each list compares
pub told_compares : (user : List ℕ) (first second : List Step) (told_first told_second : List Told) → IsTold user first told_first → IsTold user second told_second → Compares user first second told_first told_second
told_compares user first second a b (h, p) (k, q) = (h, k, p, q, alike)
  where
    alike : LookAlike user h k → TellAlike h k user first second a b
    alike looks =
        let same : heard user (world_of new_core) h ≡ heard user (world_of new_core) k = two_worlds user h k p.legal q.legal looks.first_ample looks.second_ample looks.views in
        record {
          heard_same = same;
          covered_same = covered_in user first a h p ∙ ap (λ (l : List Heard). reverse (map (λ x. x.reply) l)) same ∙ sym (covered_in user second b k q);
        }

-- the replies to the user in a legal history of exact steps are what he is told
pub told_by : (user : List ℕ) (steps : List Step) (replies told : List Told) → length replies ≡ length steps → Legal (world_of new_core) (history_of steps replies) → IsExactRun (history_of steps replies) → told ≡ those_of (is_by user) steps replies → IsTold user steps told
told_by user steps replies told same legal exact is = (history_of steps replies, record { steps_are = its_steps steps replies same; legal = legal; exact = exact; replies = its_replies user steps replies ∙ sym is })
