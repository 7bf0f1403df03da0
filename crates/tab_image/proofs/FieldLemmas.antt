-- Byte strings, names and what is chosen by a number, read from an input.
use Rattle.std.proofs.Common.{◌≡◌, ℕ, ℤ, ◌+◌, ◌<◌, ◌≤◌, true, false, List, [], ◌++◌, length, refl, sym, ap, subst, ◌∙◌, arith, length-append, Option, Some, None}
use Rattle.std.specs.Prelude.{nat_lt, ◌==◌, Result, Ok, Err, OnOk}
use Rattle.tab_image.specs.Takes.{Appends}
use Rattle.std.proofs.lemmas.Bool.Decides.{nat_tests}
use Rattle.tab_key.specs.declared.key.Kind.{Kind}
use Rattle.tab_key.specs.declared.limited_part.TheConstants.{MAX_PART_LEN}
use Rattle.tab_policy.specs.declared.sets.SystemPermissions.{SystemPermissions}
use Rattle.tab_rules.specs.declared.constraint.Constraint.{Constraint}
use Rattle.tab_history.specs.Settings.{is_version_count, least}
use Rattle.tab_history.specs.declared.event.TimeMode.{TimeMode}
use Rattle.tab_io.specs.declared.reading.Input.{Ghosts}
use Rattle.tab_codec.specs.Parts.{system_in, constraints_in}
use Rattle.tab_codec.specs.Reading.{◌>>=◌, bytes_at, only_if, is_name, u8_at, u32_at, i64_at, field_at, name_at, kind_of, kind_at, time_of, time_at, versions_at, constraints_of, constraints_at}
use Rattle.tab_image.specs.declared.unread.Unread.{Unread}
use Rattle.tab_image.specs.declared.unread.Unread.TheVariants as unread
use Rattle.tab_image.specs.Reading.{made, picked_by, part_at, system_of, system_at, horizon_at}
use Rattle.tab_image.specs.Conditions.{is_short}
use Rattle.tab_image.specs.Streams.{Leaves, Lacks, HasRead, Stops, Appended, text_of}
use Rattle.tab_image.proofs.Streams.{read_pick, stops_pick, stops_picked, read_made}
use Rattle.tab_image.proofs.NumberLemmas.{field_read, field_first, field_second}
use Rattle.tab_image.proofs.TextLemmas.{text_split}
use Rattle.tab_image.proofs.SaneLaw.{short_decides}
use Rattle.tab_codec.proofs.PartLaw.{only_passes}

-- ---- a length, and so many bytes within the limit
short_picks : (t : List ℕ) → length t ≤ MAX_PART_LEN → only_if is_short t ≡ Some t
short_picks t few = only_passes is_short t ((short_decides t).1 few)

long_picks : (t : List ℕ) → MAX_PART_LEN < length t → only_if is_short t ≡ None
long_picks t many = let e : is_short t ≡ false = grind (arith, nat_tests) in rw e refl

-- a text that is short, and what follows it
abbrev short_of : List ℕ × List ℕ → Option (List ℕ × List ℕ)
short_of x = only_if is_short x.0 >>= λ y. Some (y, x.1)

-- a length over the limit, whatever follows
long_lacks : (bytes rest : List ℕ) (n : ℕ) → u32_at bytes ≡ Some (n, rest) → MAX_PART_LEN < n → part_at bytes ≡ None
unfolding part_at picked_by field_at
long_lacks bytes rest n is many = rw is (go (bytes_at n rest) refl)
  where
    go : (o : Option (List ℕ × List ℕ)) → bytes_at n rest ≡ o → (o >>= short_of) ≡ None
    go None e = refl
    go (Some x) e =
        let long : length x.0 ≡ n = (text_split n rest x.0 x.1 e).1 in
        let none = long_picks x.0 (omega (arith, long, many)) in
        rw none refl

module _ {R : Type 0} (g : Ghosts R) where
  part_read : (a b c : R) (n : ℕ) (before after : List ℕ) → HasRead g a b u32_at n → n ≤ MAX_PART_LEN → Appended g b c (text_of n) before after → length after ≡ length before + n → Appended g a c part_at before after
  unfolding part_at
  part_read a b c n before after p few q count =
      let long : length q.text ≡ n = omega (arith, count, ap (λ (z : List ℕ). length z) q.whole, length-append before q.text) in
      record { text = q.text; whole = q.whole; read = read_pick g a c (only_if is_short) field_at q.text q.text (field_read g a b c n q.text p q.read) (short_picks q.text (omega (arith, long, few))) }

  pub part_first : (a b : R) (u : Unread) → Stops g a b u32_at u → Stops g a b part_at u
  unfolding part_at
  part_first a b u s = stops_picked g a b (only_if is_short) field_at u (field_first g a b u s)

  pub part_second : (a b c : R) (n : ℕ) (u : Unread) → HasRead g a b u32_at n → Stops g b c (text_of n) u → Stops g a c part_at u
  unfolding part_at
  part_second a b c n u p s = stops_picked g a c (only_if is_short) field_at u (field_second g a b c n u p s)

  pub part_long : (a b : R) (n : ℕ) → HasRead g a b u32_at n → MAX_PART_LEN < n → Stops g a b part_at unread.Bad
  part_long a b n p many = record { why = go (g.remaining a) p.bytes }
    where
      go : (known : Option (List ℕ)) → Leaves known (g.remaining b) u32_at n → Lacks known part_at
      go None h = tt
      go (Some bytes) h = long_lacks bytes h.0 n h.1 many

  pub part_reads : (a b c : R) (n : ℕ) (before after : List ℕ) (r : Result (Unit {0}) Unread) → HasRead g a b u32_at n → n ≤ MAX_PART_LEN → Appends g b c (text_of n) before after r → OnOk r (length after ≡ length before + n) → Appends g a c part_at before after r
  part_reads a b c n before after (Ok u) p few q count = part_read a b c n before after p few q count
  part_reads a b c n before after (Err e) p few q count = part_second a b c n e p q

  -- a text that was put behind nothing
  pub text_read : (a b : R) (n : ℕ) (before after : List ℕ) → before ≡ [] → Appended g a b (text_of n) before after → HasRead g a b (text_of n) after
  text_read a b n before after none p = subst (λ (z : List ℕ). HasRead g a b (text_of n) z) (sym (p.whole ∙ ap (λ (z : List ℕ). z ++ p.text) none)) p.read

  -- a part that was put behind nothing
  pub part_alone : (a b : R) (before after : List ℕ) → before ≡ [] → Appended g a b part_at before after → HasRead g a b part_at after
  part_alone a b before after none p = subst (λ (z : List ℕ). HasRead g a b part_at z) (sym (p.whole ∙ ap (λ (z : List ℕ). z ++ p.text) none)) p.read

  -- eight bits are a set
  system_picks : (n : ℕ) → n < 256 → system_of n ≡ Some (system_in n)
  system_picks n lt = let e : nat_lt n 256 ≡ true = grind (arith, nat_tests) in rw e refl

  pub system_read : (a b : R) (n : ℕ) (s : SystemPermissions) → HasRead g a b u8_at n → n < 256 → s ≡ system_in n → HasRead g a b system_at s
  unfolding system_at
  system_read a b n s p lt is = read_pick g a b system_of u8_at n s p (system_picks n lt ∙ ap (λ (z : SystemPermissions). Some z) (sym is))

  pub system_stops : (a b : R) (u : Unread) → Stops g a b u8_at u → Stops g a b system_at u
  unfolding system_at
  system_stops a b u s = stops_picked g a b system_of u8_at u s

  -- the four lowest bits are one
  constraint_picks : (n : ℕ) → n < 16 → constraints_of n ≡ Some (constraints_in n)
  constraint_picks n lt = let e : nat_lt n 16 ≡ true = grind (arith, nat_tests) in rw e refl

  no_constraint : (n : ℕ) → 16 ≤ n → constraints_of n ≡ None
  no_constraint n le = let e : nat_lt n 16 ≡ false = grind (arith, nat_tests) in rw e refl

  pub constraints_read : (a b : R) (n : ℕ) (s : List Constraint) → HasRead g a b u8_at n → n < 16 → s ≡ constraints_in n → HasRead g a b constraints_at s
  unfolding constraints_at picked_by
  constraints_read a b n s p lt is = read_pick g a b constraints_of u8_at n s p (constraint_picks n lt ∙ ap (λ (z : List Constraint). Some z) (sym is))

  pub constraints_none : (a b : R) (n : ℕ) → HasRead g a b u8_at n → 16 ≤ n → Stops g a b constraints_at unread.Bad
  unfolding constraints_at picked_by
  constraints_none a b n p le = stops_pick g a b constraints_of u8_at n p (no_constraint n le)

  pub constraints_stops : (a b : R) (u : Unread) → Stops g a b u8_at u → Stops g a b constraints_at u
  unfolding constraints_at picked_by
  constraints_stops a b u s = stops_picked g a b constraints_of u8_at u s

  pub name_read : (a b : R) (x : List ℕ) (y : List ℕ) → HasRead g a b field_at x → (only_if is_name) x ≡ Some y → HasRead g a b name_at y
  unfolding name_at picked_by
  name_read a b x y p e = read_pick g a b (only_if is_name) field_at x y p e

  pub name_none : (a b : R) (x : List ℕ) → HasRead g a b field_at x → (only_if is_name) x ≡ None → Stops g a b name_at unread.Bad
  unfolding name_at picked_by
  name_none a b x p e = stops_pick g a b (only_if is_name) field_at x p e

  pub name_stops : (a b : R) (u : Unread) → Stops g a b field_at u → Stops g a b name_at u
  unfolding name_at picked_by
  name_stops a b u s = stops_picked g a b (only_if is_name) field_at u s

  pub time_read : (a b : R) (x : ℕ) (y : TimeMode) → HasRead g a b u8_at x → time_of x ≡ Some y → HasRead g a b time_at y
  unfolding time_at picked_by
  time_read a b x y p e = read_pick g a b time_of u8_at x y p e

  pub time_none : (a b : R) (x : ℕ) → HasRead g a b u8_at x → time_of x ≡ None → Stops g a b time_at unread.Bad
  unfolding time_at picked_by
  time_none a b x p e = stops_pick g a b time_of u8_at x p e

  pub time_stops : (a b : R) (u : Unread) → Stops g a b u8_at u → Stops g a b time_at u
  unfolding time_at picked_by
  time_stops a b u s = stops_picked g a b time_of u8_at u s

  pub versions_read : (a b : R) (x : ℕ) (y : ℕ) → HasRead g a b u32_at x → (only_if is_version_count) x ≡ Some y → HasRead g a b versions_at y
  unfolding versions_at picked_by
  versions_read a b x y p e = read_pick g a b (only_if is_version_count) u32_at x y p e

  pub versions_none : (a b : R) (x : ℕ) → HasRead g a b u32_at x → (only_if is_version_count) x ≡ None → Stops g a b versions_at unread.Bad
  unfolding versions_at picked_by
  versions_none a b x p e = stops_pick g a b (only_if is_version_count) u32_at x p e

  pub versions_stops : (a b : R) (u : Unread) → Stops g a b u32_at u → Stops g a b versions_at u
  unfolding versions_at picked_by
  versions_stops a b u s = stops_picked g a b (only_if is_version_count) u32_at u s

  pub kind_read : (a b : R) (x : ℕ) (y : Kind) → HasRead g a b u8_at x → kind_of x ≡ Some y → HasRead g a b kind_at y
  unfolding kind_at picked_by
  kind_read a b x y p e = read_pick g a b kind_of u8_at x y p e

  pub kind_none : (a b : R) (x : ℕ) → HasRead g a b u8_at x → kind_of x ≡ None → Stops g a b kind_at unread.Bad
  unfolding kind_at picked_by
  kind_none a b x p e = stops_pick g a b kind_of u8_at x p e

  pub kind_stops : (a b : R) (u : Unread) → Stops g a b u8_at u → Stops g a b kind_at u
  unfolding kind_at picked_by
  kind_stops a b u s = stops_picked g a b kind_of u8_at u s

  -- a horizon, which in the first version is the least one
  pub first_horizon : (a : R) (version : ℕ) (z : ℤ) → (version == 1) ≡ true → z ≡ least → HasRead g a a (horizon_at version) z
  unfolding horizon_at
  first_horizon a version z first is = rw first (subst (λ (y : ℤ). HasRead g a a (made least) y) (sym is) (read_made g a least))

  pub later_horizon : (a b : R) (version : ℕ) (z : ℤ) → (version == 1) ≡ false → HasRead g a b i64_at z → HasRead g a b (horizon_at version) z
  unfolding horizon_at
  later_horizon a b version z later p = rw later p

  pub horizon_stops : (a b : R) (version : ℕ) (u : Unread) → (version == 1) ≡ false → Stops g a b i64_at u → Stops g a b (horizon_at version) u
  unfolding horizon_at
  horizon_stops a b version u later s = rw later s

pub ruleset horizons = (first_horizon, later_horizon, horizon_stops)

-- what closes the clauses of the functions that read these
pub ruleset fields = (part_alone, part_first, part_second, part_long, text_read, system_read, system_stops, constraints_read, constraints_none, constraints_stops, field_read, field_first, field_second, name_read, name_none, name_stops, time_read, time_none, time_stops, versions_read, versions_none, versions_stops, kind_read, kind_none, kind_stops)
