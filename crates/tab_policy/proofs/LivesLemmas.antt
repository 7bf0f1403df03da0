-- Lives of users, and what follows of them for rights.
use Rattle.std.proofs.Common.{◌≡◌, ℕ, ◌+◌, ◌<◌, ◌≤◌, Bool, true, false, cond, ◌&&◌, List, [], Some, None, refl, sym, ap, ◌∙◌, subst, arith}
use Rattle.std.specs.Prelude.{Option, is_some, bytes_eq}
use Rattle.std.proofs.lemmas.Slice.Eq.{bytes_eq-Decides}
use mathlib.Core.Bool.{true≢false}
use Rattle.tab_policy.specs.declared.permission.TablePermission.{TablePermission}
use Rattle.tab_policy.specs.declared.sets.TablePermissions.{TablePermissions}
use Rattle.tab_policy.specs.declared.account.Account.{Account}
use Rattle.tab_policy.specs.Entries.{at_name, at_life, changed_at, same_life}
use Rattle.tab_policy.specs.State.{some_contains, account_life, table_gives}
use Rattle.tab_policy.specs.Lives.{AreLived, is_life, life_among, name_among, gives_among}
use Rattle.tab_policy.proofs.NameLemmas.{life_is, is_life_of}
use Rattle.tab_policy.proofs.EntryLemmas.{read_same}
use Rattle.tab_policy.proofs.RightsLemmas.{false_either_way}
use Rattle.std.specs.Prelude.{Result, Ok, Err, OnOk, OnErr}

-- what is in two equal options is the same
pub unwrapped : {X : Type 0} (x y : X) → Some x ≡ Some y → x ≡ y
unwrapped {X} x y e = ap or e
  where
    or : Option X → X
    or None = x
    or (Some z) = z

-- nothing is not something
pub none_some : {X : Type 0} (x : X) → None ≡ Some x → false ≡ true
none_some {X} x e = ap there e
  where
    there : Option X → Bool
    there None = false
    there (Some z) = true

-- nobody's rights
pub no_life : (o : Option (List (ℕ × TablePermissions))) (p : TablePermission) → table_gives o None p ≡ false
no_life None p = refl
no_life (Some rights) p = refl

-- a life that has begun isn't one that is still to come
pub not_begun : (life next l : ℕ) → life < next → next ≤ l → same_life life l ≡ false
not_begun life next l begun to_come = go (same_life life l) refl
  where
    go : (v : Bool) → same_life life l ≡ v → v ≡ false
    go true h = absurd (omega (arith, begun, to_come, life_is life l h))
    go false h = refl

module _ {lives : List ℕ → Option ℕ} {names : ℕ → Option (List ℕ)} {gives : List ℕ → ℕ → TablePermission → Bool} {next : ℕ} (are : AreLived lives names gives next) where
  -- no two users share a life
  pub apart : (n m : List ℕ) (l : ℕ) → lives n ≡ Some l → lives m ≡ Some l → n ≡ m
  apart n m l of_n of_m = unwrapped n m (sym (are.kept n l of_n) ∙ are.kept m l of_m)

  -- two users are in one life where they are one
  pub one_life : (n q : List ℕ) (l m : ℕ) → lives n ≡ Some l → lives q ≡ Some m → same_life l m ≡ bytes_eq n q
  one_life n q l m of_n of_q = go (same_life l m) refl (bytes_eq n q) refl
    where
      go : (v : Bool) → same_life l m ≡ v → (w : Bool) → bytes_eq n q ≡ w → v ≡ w
      go true same true e = refl
      go false same false e = refl
      go true same false e = sym ((bytes_eq-Decides n q).1 (apart n q l of_n (of_q ∙ ap Some (sym (life_is l m same))))) ∙ e
      go false same true e = sym same ∙ is_life_of l m (unwrapped l m (sym of_n ∙ ap lives ((bytes_eq-Decides n q).0 e) ∙ of_q))

  -- a user without a life is another than one with a life
  pub another : (n q : List ℕ) (l : ℕ) → lives n ≡ Some l → lives q ≡ None → bytes_eq n q ≡ false
  another n q l of_n of_q = go (bytes_eq n q) refl
    where
      go : (w : Bool) → bytes_eq n q ≡ w → w ≡ false
      go true e = sym (none_some l (sym of_q ∙ ap lives (sym ((bytes_eq-Decides n q).0 e)) ∙ of_n))
      go false e = refl

  -- a right that changes for a life changes for the user who is in it
  pub changed_for : (n q : List ℕ) (l : ℕ) (o new : Option (List (ℕ × TablePermissions))) (p : TablePermission) (a c held : Bool) → lives n ≡ Some l
      → ((m : ℕ) → is_some (names m) ≡ true → table_gives new (Some m) p ≡ cond (a && (same_life l m && c)) held (table_gives o (Some m) p))
      → table_gives new (lives q) p ≡ cond (a && (bytes_eq n q && c)) held (table_gives o (lives q) p)
  changed_for n q l o new p a c held of_n change = go (lives q) refl
    where
      unset : (b x : Bool) → x ≡ cond (b && false) held x
      unset true x = refl
      unset false x = refl

      go : (m : Option ℕ) → lives q ≡ m → table_gives new m p ≡ cond (a && (bytes_eq n q && c)) held (table_gives o m p)
      go None e = no_life new p ∙ sym (no_life o p) ∙ unset a (table_gives o None p) ∙ sym (ap (λ b. cond (a && (b && c)) held (table_gives o None p)) (another n q l of_n e))
      go (Some m) e = change m (ap is_some (are.kept q m e)) ∙ ap (λ b. cond (a && (b && c)) held (table_gives o (Some m) p)) (one_life n q l m of_n e)

  -- all rights for a life are all rights for the user who is in it, and for nobody where nobody is
  pub made_for : (n q : List ℕ) (rights : List (ℕ × TablePermissions)) (p : TablePermission)
      → ((m : ℕ) → some_contains (at_life m rights) p ≡ is_life (lives n) m) → table_gives (Some rights) (lives q) p ≡ is_some (lives n) && bytes_eq n q
  made_for n q rights p all = go (lives n) refl (lives q) refl
    where
      go : (l : Option ℕ) → lives n ≡ l → (m : Option ℕ) → lives q ≡ m → table_gives (Some rights) m p ≡ is_some l && bytes_eq n q
      go None e None f = refl
      go None e (Some m) f = all m ∙ ap (λ l. is_life l m) e
      go (Some l) e None f = sym (another n q l e f)
      go (Some l) e (Some m) f = all m ∙ ap (λ k. is_life k m) e ∙ one_life n q l m e f

  -- whoever isn't there has no right to lose
  pub nothing_taken : (n q : List ℕ) (o : Option (List (ℕ × TablePermissions))) (p : TablePermission) (c : Bool) → lives n ≡ None
      → table_gives o (lives q) p ≡ cond (bytes_eq n q && c) false (table_gives o (lives q) p)
  nothing_taken n q o p c of_n = go (bytes_eq n q) refl
    where
      either : (x : Bool) → false ≡ cond x false false
      either true = refl
      either false = refl

      go : (w : Bool) → bytes_eq n q ≡ w → table_gives o (lives q) p ≡ cond (w && c) false (table_gives o (lives q) p)
      go true e =
          let none : table_gives o (lives q) p ≡ false = ap (λ m. table_gives o m p) (ap lives (sym ((bytes_eq-Decides n q).0 e)) ∙ of_n) ∙ no_life o p in
          none ∙ either c ∙ sym (ap (cond c false) none)
      go false e = refl

  -- ---- what a call leaves
  -- each user keeps his life, and each life its user
  pub still : (new : List ℕ → Option ℕ) (left : ℕ → Option (List ℕ)) (given : List ℕ → ℕ → TablePermission → Bool) (later : ℕ) → next ≤ later
      → ((q : List ℕ) → new q ≡ lives q) → ((l : ℕ) → left l ≡ names l) → ((t : List ℕ) (l : ℕ) (p : TablePermission) → next ≤ l → given t l p ≡ false)
      → AreLived new left given later
  still new left given later after same kept bare = record {
    begun = λ n l e. let h = are.begun n l (sym (same n) ∙ e) in omega (arith, h, after);
    kept = λ n l e. kept l ∙ are.kept n l (sym (same n) ∙ e);
    held = λ n l e. same n ∙ are.held n l (sym (kept l) ∙ e);
    bare = λ t l p h. bare t l p (omega (arith, h, after));
  }

  -- the life of a user is that of the user of this name where he is that user
  pub his_life : (n q : List ℕ) (l : ℕ) → lives q ≡ Some l → is_life (lives n) l ≡ bytes_eq n q
  his_life n q l of_q = go (lives n) refl
    where
      nobody : lives n ≡ None → (v : Bool) → bytes_eq n q ≡ v → false ≡ v
      nobody of_n true e = none_some l (sym of_n ∙ ap lives ((bytes_eq-Decides n q).0 e) ∙ of_q)
      nobody of_n false e = refl

      go : (o : Option ℕ) → lives n ≡ o → is_life o l ≡ bytes_eq n q
      go None e = nobody e (bytes_eq n q) refl
      go (Some m) e = one_life n q m l e of_q

  -- the user of this name ends his life, if there is one
  pub dies : (n : List ℕ) (new : List ℕ → Option ℕ) (left : ℕ → Option (List ℕ)) → ((q : List ℕ) → new q ≡ cond (bytes_eq n q) None (lives q))
      → ((l : ℕ) → left l ≡ cond (is_life (lives n) l) None (names l)) → AreLived new left gives next
  dies n new left after kept = record {
    begun = λ q l e. are.begun q l (lived (bytes_eq n q) (lives q) l (sym (after q) ∙ e)).1;
    kept = λ q l e.
        let still_lives = lived (bytes_eq n q) (lives q) l (sym (after q) ∙ e) in
        kept l ∙ ap (λ b. cond b None (names l)) (his_life n q l still_lives.1 ∙ still_lives.0) ∙ are.kept q l still_lives.1;
    held = λ q l e.
        let named = lived (is_life (lives n) l) (names l) q (sym (kept l) ∙ e) in
        let of_q = are.held q l named.1 in
        after q ∙ ap (λ b. cond b None (lives q)) (sym (his_life n q l of_q) ∙ named.0) ∙ of_q;
    bare = are.bare;
  }
    where
      lived : {X : Type 0} (b : Bool) (o : Option X) (x : X) → cond b None o ≡ Some x → (b ≡ false) × (o ≡ Some x)
      lived true o x e = absurd (true≢false (sym (none_some x e)))
      lived false o x e = (refl, e)

  -- a user who isn't there begins the next life
  pub is_born : (n : List ℕ) (new : List ℕ → Option ℕ) (left : ℕ → Option (List ℕ)) → lives n ≡ None → ((q : List ℕ) → new q ≡ cond (bytes_eq n q) (Some next) (lives q))
      → ((l : ℕ) → left l ≡ cond (same_life next l) (Some n) (names l)) → AreLived new left gives (next + 1)
  is_born n new left nobody after kept = record {
    begun = λ q l e. begun q l (bytes_eq n q) (sym (after q) ∙ e);
    kept = λ q l e. kept l ∙ there q l (bytes_eq n q) refl (sym (after q) ∙ e);
    held = λ q l e. after q ∙ back q l (same_life next l) refl (sym (kept l) ∙ e);
    bare = λ t l p h. are.bare t l p (omega (arith, h));
  }
    where
      begun : (q : List ℕ) (l : ℕ) (v : Bool) → cond v (Some next) (lives q) ≡ Some l → l < next + 1
      begun q l true e = let is : next ≡ l = unwrapped next l e in omega (arith, is)
      begun q l false e = let h = are.begun q l e in omega (arith, h)

      -- a life that has begun isn't the next one
      earlier : (l : ℕ) → l < next → (v : Bool) → same_life next l ≡ v → v ≡ false
      earlier l begun true h = absurd (omega (arith, begun, life_is next l h))
      earlier l begun false h = refl

      there : (q : List ℕ) (l : ℕ) (v : Bool) → bytes_eq n q ≡ v → cond v (Some next) (lives q) ≡ Some l → cond (same_life next l) (Some n) (names l) ≡ Some q
      there q l true same e = ap (λ b. cond b (Some n) (names l)) (is_life_of next l (unwrapped next l e)) ∙ ap Some ((bytes_eq-Decides n q).0 same)
      there q l false other e = ap (λ b. cond b (Some n) (names l)) (earlier l (are.begun q l e) (same_life next l) refl) ∙ are.kept q l e

      back : (q : List ℕ) (l : ℕ) (v : Bool) → same_life next l ≡ v → cond v (Some n) (names l) ≡ Some q → cond (bytes_eq n q) (Some next) (lives q) ≡ Some l
      back q l true same e = ap (λ b. cond b (Some next) (lives q)) ((bytes_eq-Decides n q).1 (unwrapped n q e)) ∙ ap Some (life_is next l same)
      back q l false other e =
          let of_q = are.held q l e in
          ap (λ b. cond b (Some next) (lives q)) (sym (his_life n q l of_q) ∙ ap (λ o. is_life o l) nobody) ∙ of_q

module _ {lives : List ℕ → Option ℕ} {names : ℕ → Option (List ℕ)} {gives : List ℕ → ℕ → TablePermission → Bool} {next : ℕ} (are : AreLived lives names gives next) where
  -- the user of this name ends his life, if there is one, and begins the next
  pub lives_anew : (n : List ℕ) (new : List ℕ → Option ℕ) (left : ℕ → Option (List ℕ)) → ((q : List ℕ) → new q ≡ cond (bytes_eq n q) (Some next) (lives q))
      → ((l : ℕ) → left l ≡ cond (is_life (lives n) l) None (cond (same_life next l) (Some n) (names l))) → AreLived new left gives (next + 1)
  lives_anew n new left after kept =
      let gone = dies are n (λ q. cond (bytes_eq n q) None (lives q)) (λ l. cond (is_life (lives n) l) None (names l)) (λ q. refl) (λ l. refl) in
      is_born gone n new left (ap (λ b. cond b None (lives n)) ((bytes_eq-Decides n n).1 refl)) (λ q. after q ∙ once (bytes_eq n q) (lives q)) (λ l. kept l ∙ turned l (same_life next l) refl)
    where
      once : (v : Bool) (o : Option ℕ) → cond v (Some next) o ≡ cond v (Some next) (cond v None o)
      once true o = refl
      once false o = refl

      -- the next life isn't one that ends
      unended : (o : Option ℕ) → lives n ≡ o → is_life o next ≡ false
      unended None e = refl
      unended (Some m) e = not_begun m next next (are.begun n m e) (omega arith)

      turned : (l : ℕ) (v : Bool) → same_life next l ≡ v → cond (is_life (lives n) l) None (cond v (Some n) (names l)) ≡ cond v (Some n) (cond (is_life (lives n) l) None (names l))
      turned l true same = ap (λ b. cond b None (Some n)) (ap (is_life (lives n)) (sym (life_is next l same)) ∙ unended (lives n) refl)
      turned l false other = refl

-- ---- users and tables
abbrev Users : Type 0
Users = List (List ℕ × Account)

abbrev Tables : Type 0
Tables = List (List ℕ × List (ℕ × TablePermissions))

abbrev Names : Type 0
Names = List (ℕ × List ℕ)

-- what follows whether a call went well or not
pub either_way : {X E C A B : Type 0} (r : Result X E) → OnOk r A → OnErr r B → (A → C) → (B → C) → C
either_way (Ok x) a b f g = f a
either_way (Err e) a b f g = g b

-- whoever is there is in a life
pub lives_who_is : (o : Option Account) → is_some (account_life o) ≡ is_some o
lives_who_is None = refl
lives_who_is (Some a) = refl

-- a change of an account leaves all lives as they are
pub same_lives : (us new : Users) (n : List ℕ) (f : Account → Account) → ((a : Account) → (f a).life ≡ a.life) → ((q : List ℕ) → at_name q new ≡ changed_at n f us q)
    → (q : List ℕ) → life_among new q ≡ life_among us q
same_lives us new n f same h q = ap account_life (h q) ∙ read_same account_life f n q us (λ a. ap Some (same a))

-- so it keeps what holds of lives
pub account_changed : (us new : Users) (names : ℕ → Option (List ℕ)) (ts : Tables) (next : ℕ) (n : List ℕ) (f : Account → Account) → ((a : Account) → (f a).life ≡ a.life)
    → ((q : List ℕ) → at_name q new ≡ changed_at n f us q) → AreLived (life_among us) names (gives_among ts) next → AreLived (life_among new) names (gives_among ts) next
account_changed us new names ts next n f same h are =
    still are (life_among new) names (gives_among ts) next (omega arith) (same_lives us new n f same h) (λ l. refl) are.bare

-- a change of rights keeps it where it gives nothing to lives that are still to come
pub rights_changed : (us : Users) (names : ℕ → Option (List ℕ)) (ts new : Tables) (next : ℕ)
    → ((t : List ℕ) (l : ℕ) (p : TablePermission) → next ≤ l → gives_among ts t l p ≡ false → gives_among new t l p ≡ false)
    → AreLived (life_among us) names (gives_among ts) next → AreLived (life_among us) names (gives_among new) next
rights_changed us names ts new next bare are =
    still are (life_among us) names (gives_among new) next (omega arith) (λ q. refl) (λ l. refl) (λ t l p h. bare t l p h (are.bare t l p h))

-- rights that a life is given or that are taken from it
pub rights_taken : (next life : ℕ) (ts new : Tables) (b c : List ℕ → TablePermission → Bool)
    → ((t : List ℕ) (l : ℕ) (p : TablePermission) → gives_among new t l p ≡ cond (same_life life l && (b t p && c t p)) false (gives_among ts t l p))
    → (t : List ℕ) (l : ℕ) (p : TablePermission) → next ≤ l → gives_among ts t l p ≡ false → gives_among new t l p ≡ false
rights_taken next life ts new b c h t l p to_come none = h t l p ∙ ap (cond (same_life life l && (b t p && c t p)) false) none ∙ false_either_way (same_life life l && (b t p && c t p))

-- a table that is made gives nothing to lives that are still to come
pub table_made : (next : ℕ) (life : Option ℕ) (ts new : Tables) (table : List ℕ) (rights : List (ℕ × TablePermissions)) → ((l : ℕ) → life ≡ Some l → l < next)
    → ((l : ℕ) (p : TablePermission) → some_contains (at_life l rights) p ≡ is_life life l)
    → (t : List ℕ) (l : ℕ) (p : TablePermission) → next ≤ l → gives_among ts t l p ≡ false
    → ((q : List ℕ) → at_name q new ≡ cond (bytes_eq table q) (Some rights) (at_name q ts)) → gives_among new t l p ≡ false
table_made next life ts new table rights begun all t l p to_come none h =
    ap (λ o. table_gives o (Some l) p) (h t) ∙ go (bytes_eq table t)
  where
    later : (o : Option ℕ) → life ≡ o → is_life o l ≡ false
    later None e = refl
    later (Some m) e = not_begun m next l (begun m e) to_come

    go : (v : Bool) → table_gives (cond v (Some rights) (at_name t ts)) (Some l) p ≡ false
    go true = all l p ∙ later life refl
    go false = none

-- ---- users come and go
-- the life of an account that is one of two
life_of_either : (b : Bool) (o p : Option Account) → account_life (cond b o p) ≡ cond b (account_life o) (account_life p)
life_of_either true o p = refl
life_of_either false o p = refl

-- a user is made, in the next life, in the place of one who has his name
pub user_comes : (us new : Users) (living begun left : Names) (ts : Tables) (next : ℕ) (n : List ℕ) (a : Account) → a.life ≡ next
    → ((q : List ℕ) → at_name q new ≡ cond (bytes_eq n q) (Some a) (at_name q us))
    → ((l : ℕ) → at_life l begun ≡ cond (same_life next l) (Some n) (at_life l living))
    → ((l : ℕ) → at_life l left ≡ cond (is_life (account_life (at_name n us)) l) None (at_life l begun))
    → AreLived (life_among us) (name_among living) (gives_among ts) next → AreLived (life_among new) (name_among left) (gives_among ts) (next + 1)
user_comes us new living begun left ts next n a is users begins ends are =
    lives_anew are n (life_among new) (name_among left)
    (λ q. ap account_life (users q) ∙ life_of_either (bytes_eq n q) (Some a) (at_name q us) ∙ ap (λ l. cond (bytes_eq n q) (Some l) (life_among us q)) is)
    (λ l. ends l ∙ ap (cond (is_life (life_among us n) l) None) (begins l))

-- the first user is made where nobody lived
pub first_user : (us new : Users) (living begun : Names) (ts : Tables) (next later : ℕ) (n : List ℕ) (a : Account) → us ≡ [] → living ≡ [] → ts ≡ [] → next ≡ 0 → later ≡ next + 1 → a.life ≡ next
    → ((q : List ℕ) → at_name q new ≡ cond (bytes_eq n q) (Some a) (at_name q us))
    → ((l : ℕ) → at_life l begun ≡ cond (same_life next l) (Some n) (at_life l living))
    → AreLived (life_among new) (name_among begun) (gives_among ts) later
first_user us new living begun ts next later n a no_user no_life no_table zero one is users begins =
    subst (AreLived (life_among new) (name_among begun) (gives_among ts)) (sym one)
    (is_born (nobody_lives us living ts next no_user no_life no_table) n (life_among new) (name_among begun) (ap (λ (us : Users). life_among us n) no_user)
    (λ q. ap account_life (users q) ∙ life_of_either (bytes_eq n q) (Some a) (at_name q us) ∙ ap (λ l. cond (bytes_eq n q) (Some l) (life_among us q)) is) begins)
  where
    nobody_lives : (us : Users) (living : Names) (ts : Tables) (next : ℕ) → us ≡ [] → living ≡ [] → ts ≡ [] → AreLived (life_among us) (name_among living) (gives_among ts) next
    nobody_lives us living ts next no_user no_life no_table = record {
      begun = λ n l e. absurd (true≢false (sym (none_some l (sym (ap (λ (us : Users). life_among us n) no_user) ∙ e))));
      kept = λ n l e. absurd (true≢false (sym (none_some l (sym (ap (λ (us : Users). life_among us n) no_user) ∙ e))));
      held = λ n l e. absurd (true≢false (sym (none_some n (sym (ap (λ (living : Names). name_among living l) no_life) ∙ e))));
      bare = λ t l p h. ap (λ (ts : Tables). gives_among ts t l p) no_table;
    }
