-- A refusal is read of the frame that is written of it, and of no other one.
use Rattle.std.proofs.Common.{◌≡◌, ℕ, ℤ, ◌<◌, ◌≤◌, ◌^◌, ◌==◌, Bool, true, false, cond, List, [], ◌∷◌, ◌++◌, length, Option, Some, None, refl, sym, ap, subst, ◌∙◌, arith, inl, inr}
use Rattle.std.specs.Prelude.{FitsSigned}
use Rattle.std.specs.Int.{w32, w64, to_be_bytes, cast_unsigned}
use Rattle.std.proofs.lemmas.Int.{of_z-to_z, to_z-of_z}
use Rattle.std.specs.List.{flat_map}
use Rattle.tab_key.specs.Names.{IsName}
use Rattle.tab_key.specs.declared.limited_part.LimitedPart.{LimitedPart}
use Rattle.tab_key.specs.declared.limited_part.LimitedPart.TheVariants as part
use Rattle.tab_rules.specs.Constraints.{constraint_number}
use Rattle.tab_rules.specs.declared.constraint.Constraint.{Constraint}
use Rattle.tab_rules.specs.declared.constraint.Constraint.TheVariants.{KeySize, Alphanumeric, Numeric, Visibility}
use Rattle.tab_rules.specs.declared.violation.Violation.{Violation}
use Rattle.tab_policy.specs.Permissions.{table_place}
use Rattle.tab_policy.specs.declared.permission.Permission.{Permission}
use Rattle.tab_policy.specs.declared.permission.Permission.TheVariants.{OfSystem, OfTable}
use Rattle.tab_history.specs.declared.reply.Refusal.{Refusal}
use Rattle.tab_history.specs.declared.reply.Refusal.TheVariants as refusal
use Rattle.tab_history.specs.declared.split_fault.SplitFault.{SplitFault}
use Rattle.tab_history.specs.declared.split_fault.SplitFault.TheVariants.{Present, Small, OneRow}
use Rattle.tab_codec.specs.Parts.{IsBytes, IsByte, IsU32, IsU64, IsI64, IsField, IsNameField, AreParts, IsCounted}
use Rattle.tab_codec.specs.Reading.{◌>>=◌, Reader, mapped, picked, given, nothing_at, whole, u8_at, u32_at, u64_at, i64_at, field_at, name_at, tagged}
use Rattle.tab_codec.specs.Exactness.{Exact}
use Rattle.tab_codec.proofs.Exact.{some_inj, exact_as, Follows, exact_then, Becomes, exact_mapped, exact_picked, exact_nothing, exact_given, exact_u8, exact_u32, exact_u64, bytes-rest, whole_sound, whole_complete}
use Rattle.tab_codec.proofs.PartLaw.{exact_i64, exact_field, exact_name, exact_counted, Tagged, exact_tagged, eq_is, Either, exact_either}
use Rattle.tab_codec.proofs.TagLaw.{begins, Given, Nothing}
use Rattle.tab_wire.specs.declared.reason.Reason.{Reason}
use Rattle.tab_wire.specs.declared.reason.Reason.TheVariants as reason
use Rattle.tab_wire.specs.declared.reply_frame.ReplyFrame.{ReplyFrame}
use Rattle.tab_wire.specs.declared.reply_frame.ReplyFrame.TheVariants as told
use Rattle.tab_wire.specs.FrameParts.{IsPermission}
use Rattle.tab_wire.specs.FrameReading.{permission_at}
use Rattle.tab_wire.specs.Replies.{u32, u64, i64, field, part_number, reason_number, split_number, permission_bytes, violation_bytes, refusal_bytes}
use Rattle.tab_wire.specs.Tells.{part_of, reason_of, split_fault_of, constraint_of, violation_at, violations_at, malformed_at, horizon_by, refusal_by, refused_by, refused_at, told_in}
use Rattle.tab_wire.specs.TellLaws.{IsPermissionTold, ArePlacesTold, IsTold, RefusalsAreTold}
use Rattle.tab_wire.proofs.FrameLaw.{exact_permission}
use borrow.Author.Gap.{read_sfits}
use mir.ValLaws.{of_z_fits}

-- ---- what one byte says
-- the one of this number, or one behind it
or_next : {A : Type 0} (n k : ℕ) (x : A) (rest : Option A) (y : A) (number : A → ℕ) → number x ≡ k → cond (n == k) (Some x) rest ≡ Some y → (rest ≡ Some y → n ≡ number y) → n ≡ number y
or_next n k x rest y number is says then =
    elim (n == k) as (λ b. (n == k) ≡ b → cond b (Some x) rest ≡ Some y → n ≡ number y) [
      | true ↦ λ e h. eq_is n k e ∙ sym is ∙ ap number (some_inj x y h)
      | false ↦ λ e h. then h
    ] refl says

part_again : (p : LimitedPart) → part_of (part_number p) ≡ Some p
part_again part.Updates = refl
part_again p = refl

part_picks : (n : ℕ) (p : LimitedPart) → part_of n ≡ Some p → n ≡ part_number p
part_picks n p is =
    or_next n 1 part.Updates _ p part_number refl is (λ is.
    or_next n 2 part.Row _ p part_number refl is (λ is.
    or_next n 3 part.Family _ p part_number refl is (λ is.
    or_next n 4 part.Qualifier _ p part_number refl is (λ is.
    or_next n 5 part.Label _ p part_number refl is (λ is.
    or_next n 6 part.Value _ p part_number refl is (λ is.
    or_next n 7 part.Columns _ p part_number refl is (λ is.
    or_next n 8 part.Authorizations _ p part_number refl is (λ is.
    or_next n 9 part.Ranges _ p part_number refl is (λ is.
    or_next n 10 part.Sessions _ p part_number refl is (λ is.
    or_next n 11 part.Numbers _ p part_number refl is (λ is.
    absurd cc)))))))))))

reason_again : (r : Reason) → reason_of (reason_number r) ≡ Some r
reason_again reason.Empty = refl
reason_again r = refl

reason_picks : (n : ℕ) (r : Reason) → reason_of n ≡ Some r → n ≡ reason_number r
reason_picks n r is =
    or_next n 1 reason.Empty _ r reason_number refl is (λ is.
    or_next n 2 reason.TooLong _ r reason_number refl is (λ is.
    or_next n 3 reason.Cut _ r reason_number refl is (λ is.
    or_next n 4 reason.Opcode _ r reason_number refl is (λ is.
    or_next n 5 reason.Field _ r reason_number refl is (λ is.
    or_next n 6 reason.Order _ r reason_number refl is (λ is.
    absurd cc))))))

split_again : (f : SplitFault) → split_fault_of (split_number f) ≡ Some f
split_again Present = refl
split_again f = refl

split_picks : (n : ℕ) (f : SplitFault) → split_fault_of n ≡ Some f → n ≡ split_number f
split_picks n f is =
    or_next n 0 Present _ f split_number refl is (λ is.
    or_next n 1 Small _ f split_number refl is (λ is.
    or_next n 2 OneRow _ f split_number refl is (λ is.
    absurd cc)))

constraint_again : (c : Constraint) → constraint_of (constraint_number c) ≡ Some c
constraint_again KeySize = refl
constraint_again c = refl

constraint_picks : (n : ℕ) (c : Constraint) → constraint_of n ≡ Some c → n ≡ constraint_number c
constraint_picks n c is =
    or_next n 1 KeySize _ c constraint_number refl is (λ is.
    or_next n 2 Alphanumeric _ c constraint_number refl is (λ is.
    or_next n 3 Numeric _ c constraint_number refl is (λ is.
    or_next n 4 Visibility _ c constraint_number refl is (λ is.
    absurd cc))))

-- the byte of this number
abbrev IsNumber : {A : Type 0} → (A → ℕ) → List ℕ → A → Type 0
IsNumber number bytes x = bytes ≡ number x ∷ []

exact_number : {A : Type 0} (number : A → ℕ) (of : ℕ → Option A) → ((x : A) → of (number x) ≡ Some x) → ((n : ℕ) (x : A) → of n ≡ Some x → n ≡ number x) → Exact (picked of u8_at) (IsNumber number)
exact_number number of again picks = exact_as (IsNumber number) (exact_picked of u8_at IsByte exact_u8)
    (λ bytes x p. p.says ∙ ap (λ (n : ℕ). n ∷ []) (picks p.first x p.picks))
    (λ bytes x is. record { first = number x; says = is; picks = again x })

-- ---- what fails
abbrev IsViolation : List ℕ → Violation → Type 0
IsViolation bytes v = (bytes ≡ violation_bytes v) × (v.update < 2 ^ 32)

abbrev failing : Constraint → ℕ → ℕ → Violation
failing c code update = record { constraint = c; code = code; update = update }

abbrev ByViolation : List ℕ → Violation → Type 0
ByViolation = Follows (IsNumber constraint_number) (λ c. Follows IsByte (λ code. Becomes IsU32 (λ update. failing c code update)))

violation_to : (bytes : List ℕ) (v : Violation) → ByViolation bytes v → IsViolation bytes v
unfolding u32
violation_to bytes v f =
    let g = f.next in
    let h = g.next in
    let spelled : bytes ≡ constraint_number f.first ∷ g.first ∷ to_be_bytes w32 h.first = f.parts ∙ (λ i. f.says i ++ (g.parts ∙ (λ j. g.says j ++ h.says.0 j)) i) in
    subst (λ (w : Violation). IsViolation bytes w) h.becomes (spelled, h.says.1)

violation_back : (bytes : List ℕ) (v : Violation) → IsViolation bytes v → ByViolation bytes v
unfolding u32
violation_back bytes v is = record {
  first = v.constraint;
  front = constraint_number v.constraint ∷ [];
  back = v.code ∷ to_be_bytes w32 v.update;
  parts = is.0;
  says = refl;
  next = record { first = v.code; front = v.code ∷ []; back = to_be_bytes w32 v.update; parts = refl; says = refl; next = record { first = v.update; says = (refl, is.1); becomes = refl } };
}

exact_violation : Exact violation_at IsViolation
unfolding violation_at
exact_violation =
    exact_as IsViolation
    (exact_then (picked constraint_of u8_at) (IsNumber constraint_number) _ _ (exact_number constraint_number constraint_of constraint_again constraint_picks) (λ c.
    exact_then u8_at IsByte _ _ exact_u8 (λ code.
    exact_mapped (λ update. failing c code update) u32_at IsU32 exact_u32)))
    violation_to violation_back

violation_long : (bytes : List ℕ) (v : Violation) → IsViolation bytes v → 6 ≤ length bytes
unfolding u32
violation_long bytes v is = let len : length bytes ≡ 6 = ap (λ (z : List ℕ). length z) is.0 in omega (arith, len)

exact_violations : Exact violations_at (IsCounted IsU32 IsViolation)
unfolding violations_at
exact_violations = exact_counted u32_at IsU32 6 violation_at IsViolation exact_u32 exact_violation violation_long

parts_told : (bytes : List ℕ) (vs : List Violation) → AreParts IsViolation bytes vs → (bytes ≡ flat_map violation_bytes vs) × ArePlacesTold vs
parts_told bytes [] are = (are, tt)
parts_told bytes (v ∷ vs) are = let rest = parts_told are.1 vs are.4 in (are.2 ∙ (λ i. are.3.0 i ++ rest.0 i), (are.3.1, rest.1))

told_parts : (vs : List Violation) → ArePlacesTold vs → AreParts IsViolation (flat_map violation_bytes vs) vs
told_parts [] places = refl
told_parts (v ∷ vs) places = (violation_bytes v, flat_map violation_bytes vs, refl, (refl, places.0), told_parts vs places.1)

-- ---- two numbers
abbrev IsMalformed : List ℕ → Refusal → Type 0
IsMalformed = Follows IsU32 (λ update. Becomes IsU32 (λ offset. refusal.MalformedVisibility update offset))

exact_malformed : Exact malformed_at IsMalformed
unfolding malformed_at
exact_malformed = exact_then u32_at IsU32 _ _ exact_u32 (λ update. exact_mapped (λ offset. refusal.MalformedVisibility update offset) u32_at IsU32 exact_u32)

-- ---- a signed number
signed_spelled : (bytes : List ℕ) (z : ℤ) → IsI64 bytes z → (bytes ≡ i64 z) × FitsSigned w64 z
unfolding i64
signed_spelled bytes z is =
    (is.1.0 ∙ ap (to_be_bytes w64) (sym (ap (cast_unsigned w64) is.2 ∙ of_z-to_z w64 is.0 is.1.1)), subst (λ (y : ℤ). FitsSigned w64 y) (sym is.2) (read_sfits w64 is.0))

signed_told : (z : ℤ) → FitsSigned w64 z → IsI64 (i64 z) z
unfolding i64
signed_told z fits = (cast_unsigned w64 z, (refl, (of_z_fits w64 z fits).fits), sym (to_z-of_z w64 z fits))

-- ---- what goes with the flag of a horizon
abbrev IsLowered : List ℕ → Refusal → Type 0
IsLowered = Becomes IsI64 (λ present. refusal.HorizonLowered present)

abbrev IsBelow : List ℕ → Refusal → Type 0
IsBelow = Becomes IsU32 (λ update. refusal.BelowHorizon update)

abbrev ByHorizon : ℕ → List ℕ → Refusal → Type 0
ByHorizon flag = Either flag 0 IsLowered (Either flag 1 IsBelow (Either flag 2 (Given refusal.ServerTime) Nothing))

by_horizon : (flag : ℕ) → Exact (horizon_by flag) (ByHorizon flag)
by_horizon flag =
    let lowered = mapped (λ present. refusal.HorizonLowered present) i64_at in
    let below = mapped (λ update. refusal.BelowHorizon update) u32_at in
    let server : Reader Refusal = cond (flag == 2) (given refusal.ServerTime) nothing_at in
    exact_either flag 0 lowered (cond (flag == 1) below server) IsLowered (Either flag 1 IsBelow (Either flag 2 (Given refusal.ServerTime) Nothing)) (exact_mapped (λ present. refusal.HorizonLowered present) i64_at IsI64 exact_i64)
    (exact_either flag 1 below server IsBelow (Either flag 2 (Given refusal.ServerTime) Nothing) (exact_mapped (λ update. refusal.BelowHorizon update) u32_at IsU32 exact_u32)
    (exact_either flag 2 (given refusal.ServerTime) nothing_at (Given refusal.ServerTime) Nothing (exact_given refusal.ServerTime) exact_nothing))

exact_by_horizon : Exact (tagged horizon_by) (Tagged ByHorizon)
exact_by_horizon = exact_tagged horizon_by ByHorizon by_horizon

-- ---- forwards: what is written is read
abbrev refusing : Reader Refusal → Reader ReplyFrame
refusing reads = mapped (λ r. told.Refused r) reads

reads_back : (reads : Reader Refusal) (Says : List ℕ → Refusal → Type 0) → Exact reads Says → (fields : List ℕ) (r : Refusal) → Says fields r → whole (refusing reads fields) ≡ Some (told.Refused r)
reads_back reads Says e fields r is = whole_complete (refusing reads) (Becomes Says (λ r. told.Refused r)) (exact_mapped (λ r. told.Refused r) reads Says e) fields (told.Refused r) (record { first = r; says = is; becomes = refl })

one_back : {A : Type 0} (reads : Reader A) (Says : List ℕ → A → Type 0) → Exact reads Says → (says : A → Refusal) (fields : List ℕ) (x : A) → Says fields x → whole (refusing (mapped says reads) fields) ≡ Some (told.Refused (says x))
one_back reads Says e says fields x is = reads_back (mapped says reads) (Becomes Says says) (exact_mapped says reads Says e) fields (says x) (record { first = x; says = is; becomes = refl })

name_field : (name : List ℕ) → IsName name → IsNameField (field name) name
unfolding u32
name_field name is = ((refl, omega (arith, is.1)), is)

permission_told : (p : Permission) → IsPermissionTold p → IsPermission (permission_bytes p) p
permission_told (OfSystem p) is = refl
permission_told (OfTable p table) is = (field table, refl, name_field table is)

forwards : (r : Refusal) → IsTold r → told_in (129 ∷ refusal_bytes r) ≡ Some (told.Refused r)
unfolding told_in refused_at u32 u64
forwards (refusal.UnknownUser user) is = one_back name_at IsNameField exact_name (λ x. refusal.UnknownUser x) (field user) user (name_field user is)
forwards (refusal.NoTable table) is = one_back name_at IsNameField exact_name (λ x. refusal.NoTable x) (field table) table (name_field table is)
forwards (refusal.PermissionDenied p) is = one_back permission_at IsPermission exact_permission (λ x. refusal.PermissionDenied x) (permission_bytes p) p (permission_told p is)
forwards (refusal.BadAuthorizations term) is = one_back field_at IsField exact_field (λ x. refusal.BadAuthorizations x) (field term) term (refl, is)
forwards (refusal.MalformedVisibility update offset) is =
    reads_back malformed_at IsMalformed exact_malformed (u32 update ++ u32 offset) (refusal.MalformedVisibility update offset)
    (record { first = update; front = u32 update; back = u32 offset; parts = refl; says = (refl, is.0); next = record { first = offset; says = (refl, is.1); becomes = refl } })
forwards (refusal.ConstraintViolation vs) is =
    one_back violations_at (IsCounted IsU32 IsViolation) exact_violations (λ x. refusal.ConstraintViolation x) (u32 (length vs) ++ flat_map violation_bytes vs) vs
    (u32 (length vs), flat_map violation_bytes vs, refl, (refl, is.0), told_parts vs is.1)
forwards (refusal.TimestampNotAllowed update) is = one_back u32_at IsU32 exact_u32 (λ x. refusal.TimestampNotAllowed x) (u32 update) update (refl, is)
forwards (refusal.TooLarge p) is = one_back (picked part_of u8_at) (IsNumber part_number) (exact_number part_number part_of part_again part_picks) (λ x. refusal.TooLarge x) (part_number p ∷ []) p refl
forwards (refusal.TableExists table) is = one_back name_at IsNameField exact_name (λ x. refusal.TableExists x) (field table) table (name_field table is)
forwards (refusal.UserExists user) is = one_back name_at IsNameField exact_name (λ x. refusal.UserExists x) (field user) user (name_field user is)
forwards (refusal.NoUser user) is = one_back name_at IsNameField exact_name (λ x. refusal.NoUser x) (field user) user (name_field user is)
forwards (refusal.Stale count) is = one_back u64_at IsU64 exact_u64 (λ x. refusal.Stale x) (u64 count) count (refl, is)
forwards (refusal.NoSession slot) is = one_back u32_at IsU32 exact_u32 (λ x. refusal.NoSession x) (u32 slot) slot (refl, is)
forwards (refusal.NoJob slot) is = absurd is
forwards (refusal.BadSplit fault) is = one_back (picked split_fault_of u8_at) (IsNumber split_number) (exact_number split_number split_fault_of split_again split_picks) (λ x. refusal.BadSplit x) (split_number fault ∷ []) fault refl
forwards (refusal.VersionsRaised present) is = one_back u32_at IsU32 exact_u32 (λ x. refusal.VersionsRaised x) (u32 present) present (refl, is)
forwards (refusal.HorizonLowered present) is = one_back i64_at IsI64 exact_i64 (λ x. refusal.HorizonLowered x) (i64 present) present (signed_told present is)
forwards (refusal.BelowHorizon update) is = one_back u32_at IsU32 exact_u32 (λ x. refusal.BelowHorizon x) (u32 update) update (refl, is)
forwards refusal is = refl

-- ---- backwards: what is read was written
abbrev Written : ℕ → List ℕ → Refusal → Type 0
Written n fields r = (n ∷ fields ≡ refusal_bytes r) × IsTold r

abbrev refusal_in : Refusal → ReplyFrame → Refusal
refusal_in other (told.Refused r) = r
refusal_in other _ = other

written_of : (n : ℕ) (reads : Reader Refusal) (Says : List ℕ → Refusal → Type 0) → Exact reads Says → ((p : List ℕ) (x : Refusal) → Says p x → Written n p x)
    → (fields : List ℕ) (r : Refusal) → IsBytes fields → whole (refusing reads fields) ≡ Some (told.Refused r) → Written n fields r
written_of n reads Says e spells fields r fits is =
    let h = whole_sound (refusing reads) (Becomes Says (λ x. told.Refused x)) (exact_mapped (λ x. told.Refused x) reads Says e) fields (told.Refused r) fits is in
    subst (λ (x : Refusal). Written n fields x) (ap (refusal_in r) h.becomes) (spells fields h.first h.says)

one_written : {A : Type 0} (n : ℕ) (reads : Reader A) (Says : List ℕ → A → Type 0) → Exact reads Says → (says : A → Refusal) → ((p : List ℕ) (x : A) → Says p x → Written n p (says x))
    → (fields : List ℕ) (r : Refusal) → IsBytes fields → whole (refusing (mapped says reads) fields) ≡ Some (told.Refused r) → Written n fields r
one_written n reads Says e says spells =
    written_of n (mapped says reads) (Becomes Says says) (exact_mapped says reads Says e) (λ p x h. subst (λ (y : Refusal). Written n p y) h.becomes (spells p h.first h.says))

-- nothing else is told
bare_written : (n : ℕ) (x : Refusal) → Written n [] x → (fields : List ℕ) (r : Refusal) → IsBytes fields → whole (refusing (given x) fields) ≡ Some (told.Refused r) → Written n fields r
bare_written n x spells = written_of n (given x) (Given x) (exact_given x) (λ p y h. subst (λ (z : Refusal). Written n p z) h.1 (subst (λ (z : List ℕ). Written n z x) (sym h.0) spells))

permission_spelled : (bytes : List ℕ) (p : Permission) → IsPermission bytes p → (bytes ≡ permission_bytes p) × IsPermissionTold p
unfolding u32
permission_spelled bytes (OfSystem p) is = (is, tt)
permission_spelled bytes (OfTable p table) is = (is.1 ∙ ap (λ (t : List ℕ). 1 ∷ table_place p ∷ t) is.2.0.0, is.2.1)

horizon_written : (p : List ℕ) (x : Refusal) → Tagged ByHorizon p x → Written 22 p x
unfolding Either u32
horizon_written p x t = elim t.next [
  | inl h ↦
      let s = signed_spelled t.back h.1.first h.1.says in
      subst (λ (y : Refusal). Written 22 p y) h.1.becomes (ap (λ (z : List ℕ). 22 ∷ z) (begins p t.back t.flag 0 t.parts h.0 ∙ ap (λ (z : List ℕ). 0 ∷ z) s.0), s.1)
  | inr h ↦ elim h.1 [
    | inl g ↦ subst (λ (y : Refusal). Written 22 p y) g.1.becomes (ap (λ (z : List ℕ). 22 ∷ z) (begins p t.back t.flag 1 t.parts g.0 ∙ ap (λ (z : List ℕ). 1 ∷ z) g.1.says.0), g.1.says.1)
    | inr g ↦ elim g.1 [
      | inl k ↦ subst (λ (y : Refusal). Written 22 p y) k.1.1 (ap (λ (z : List ℕ). 22 ∷ z) (begins p t.back t.flag 2 t.parts k.0 ∙ ap (λ (z : List ℕ). 2 ∷ z) k.1.0), tt)
      | inr k ↦ absurd k.1
    ]
  ]
]

-- what a part changed gives is such a change
change_of : {A B : Type 0} (f : A → B) (reads : Reader A) (bytes : List ℕ) (y : B) → whole (mapped f reads bytes) ≡ Some y → (x : A) × (f x ≡ y)
change_of {A} {B} f reads bytes y is = go (reads bytes) is
  where
    some : (b : Bool) (x : A) → cond b (Some (f x)) None ≡ Some y → (x : A) × (f x ≡ y)
    some true x e = (x, some_inj (f x) y e)
    some false x e = absurd cc

    go : (o : Option (A × List ℕ)) → whole (o >>= λ x. Some (f x.0, x.1)) ≡ Some y → (x : A) × (f x ≡ y)
    go None e = absurd cc
    go (Some x) e = some (length x.1 == 0) x.0 e

-- why a frame asked nothing is no refusal
abbrev blaming : Reader ReplyFrame
blaming = mapped (λ why. told.BadFrame why) (picked reason_of u8_at)

no_refusal : (fields : List ℕ) (r : Refusal) → whole (blaming fields) ≡ Some (told.Refused r) → ⊥
no_refusal fields r is = let never : told.BadFrame _ ≡ told.Refused r = (change_of (λ why. told.BadFrame why) (picked reason_of u8_at) fields (told.Refused r) is).1 in absurd cc

-- it is what goes with this number, or with one behind it
on_number : (n k : ℕ) (reads rest : Reader Refusal) (fields : List ℕ) (r : Refusal) → whole (refusing (cond (n == k) reads rest) fields) ≡ Some (told.Refused r) → (whole (refusing reads fields) ≡ Some (told.Refused r) → Written k fields r)
    → (whole (refusing rest fields) ≡ Some (told.Refused r) → Written n fields r) → Written n fields r
on_number n k reads rest fields r is here then =
    elim (n == k) as (λ b. (n == k) ≡ b → whole (refusing (cond b reads rest) fields) ≡ Some (told.Refused r) → Written n fields r) [
      | true ↦ λ e h. subst (λ (m : ℕ). Written m fields r) (sym (eq_is n k e)) (here h)
      | false ↦ λ e h. then h
    ] refl is

refusal_sound : (n : ℕ) (fields : List ℕ) (r : Refusal) → IsBytes fields → whole (refusing (refusal_by n) fields) ≡ Some (told.Refused r) → Written n fields r
unfolding u32 u64
refusal_sound n fields r fits is =
    on_number n 1 _ _ fields r is (one_written 1 name_at IsNameField exact_name (λ x. refusal.UnknownUser x) (λ p x h. (ap (λ (z : List ℕ). 1 ∷ z) h.0.0, h.1)) fields r fits) (λ is.
    on_number n 2 _ _ fields r is (one_written 2 name_at IsNameField exact_name (λ x. refusal.NoTable x) (λ p x h. (ap (λ (z : List ℕ). 2 ∷ z) h.0.0, h.1)) fields r fits) (λ is.
    on_number n 3 _ _ fields r is (one_written 3 permission_at IsPermission exact_permission (λ x. refusal.PermissionDenied x) (λ p x h. let s = permission_spelled p x h in (ap (λ (z : List ℕ). 3 ∷ z) s.0, s.1)) fields r fits) (λ is.
    on_number n 4 _ _ fields r is (one_written 4 field_at IsField exact_field (λ x. refusal.BadAuthorizations x) (λ p x h. (ap (λ (z : List ℕ). 4 ∷ z) h.0, h.1)) fields r fits) (λ is.
    on_number n 5 _ _ fields r is (written_of 5 malformed_at IsMalformed exact_malformed (λ p x h. subst (λ (y : Refusal). Written 5 p y) h.next.becomes (ap (λ (z : List ℕ). 5 ∷ z) (h.parts ∙ (λ i. h.says.0 i ++ h.next.says.0 i)), (h.says.1, h.next.says.1))) fields r fits) (λ is.
    on_number n 6 _ _ fields r is (one_written 6 violations_at (IsCounted IsU32 IsViolation) exact_violations (λ x. refusal.ConstraintViolation x) (λ p x h. let s = parts_told h.1 x h.4 in (ap (λ (z : List ℕ). 6 ∷ z) (h.2 ∙ (λ i. h.3.0 i ++ s.0 i)), (h.3.1, s.1))) fields r fits) (λ is.
    on_number n 7 _ _ fields r is (one_written 7 u32_at IsU32 exact_u32 (λ x. refusal.TimestampNotAllowed x) (λ p x h. (ap (λ (z : List ℕ). 7 ∷ z) h.0, h.1)) fields r fits) (λ is.
    on_number n 8 _ _ fields r is (bare_written 8 refusal.EmptyMutation (refl, tt) fields r fits) (λ is.
    on_number n 9 _ _ fields r is (one_written 9 (picked part_of u8_at) (IsNumber part_number) (exact_number part_number part_of part_again part_picks) (λ x. refusal.TooLarge x) (λ p x h. (ap (λ (z : List ℕ). 9 ∷ z) h, tt)) fields r fits) (λ is.
    on_number n 10 _ _ fields r is (one_written 10 name_at IsNameField exact_name (λ x. refusal.TableExists x) (λ p x h. (ap (λ (z : List ℕ). 10 ∷ z) h.0.0, h.1)) fields r fits) (λ is.
    on_number n 11 _ _ fields r is (one_written 11 name_at IsNameField exact_name (λ x. refusal.UserExists x) (λ p x h. (ap (λ (z : List ℕ). 11 ∷ z) h.0.0, h.1)) fields r fits) (λ is.
    on_number n 12 _ _ fields r is (one_written 12 name_at IsNameField exact_name (λ x. refusal.NoUser x) (λ p x h. (ap (λ (z : List ℕ). 12 ∷ z) h.0.0, h.1)) fields r fits) (λ is.
    on_number n 13 _ _ fields r is (bare_written 13 refusal.BadRange (refl, tt) fields r fits) (λ is.
    on_number n 14 _ _ fields r is (one_written 14 u64_at IsU64 exact_u64 (λ x. refusal.Stale x) (λ p x h. (ap (λ (z : List ℕ). 14 ∷ z) h.0, h.1)) fields r fits) (λ is.
    on_number n 15 _ _ fields r is (one_written 15 u32_at IsU32 exact_u32 (λ x. refusal.NoSession x) (λ p x h. (ap (λ (z : List ℕ). 15 ∷ z) h.0, h.1)) fields r fits) (λ is.
    on_number n 17 _ _ fields r is (bare_written 17 refusal.NoMemory (refl, tt) fields r fits) (λ is.
    on_number n 18 _ _ fields r is (bare_written 18 refusal.RootFixed (refl, tt) fields r fits) (λ is.
    on_number n 19 _ _ fields r is (bare_written 19 refusal.GrantInvalid (refl, tt) fields r fits) (λ is.
    on_number n 20 _ _ fields r is (one_written 20 (picked split_fault_of u8_at) (IsNumber split_number) (exact_number split_number split_fault_of split_again split_picks) (λ x. refusal.BadSplit x) (λ p x h. (ap (λ (z : List ℕ). 20 ∷ z) h, tt)) fields r fits) (λ is.
    on_number n 21 _ _ fields r is (one_written 21 u32_at IsU32 exact_u32 (λ x. refusal.VersionsRaised x) (λ p x h. (ap (λ (z : List ℕ). 21 ∷ z) h.0, h.1)) fields r fits) (λ is.
    on_number n 22 _ _ fields r is (written_of 22 (tagged horizon_by) (Tagged ByHorizon) exact_by_horizon horizon_written fields r fits) (λ is.
    absurd cc)))))))))))))))))))))

backwards : (n : ℕ) (fields : List ℕ) (r : Refusal) → IsBytes fields → whole (refused_by n fields) ≡ Some (told.Refused r) → Written n fields r
backwards n fields r fits is =
    elim (n == 16) as (λ b. (n == 16) ≡ b → whole (cond b blaming (refusing (refusal_by n)) fields) ≡ Some (told.Refused r) → Written n fields r) [
      | true ↦ λ e h. absurd (no_refusal fields r h)
      | false ↦ λ e h. refusal_sound n fields r fits h
    ] refl is

refused_sound : (fields : List ℕ) (r : Refusal) → IsBytes fields → told_in (129 ∷ fields) ≡ Some (told.Refused r) → (fields ≡ refusal_bytes r) × IsTold r
unfolding told_in refused_at
refused_sound [] r fits is = absurd cc
refused_sound (n ∷ fields) r fits is = backwards n fields r (bytes-rest n fields fits) is

-- ---- why a frame asked nothing
blame_complete : (why : Reason) → told_in (129 ∷ 16 ∷ reason_number why ∷ []) ≡ Some (told.BadFrame why)
unfolding told_in refused_at
blame_complete why =
    whole_complete blaming (Becomes (IsNumber reason_number) (λ x. told.BadFrame x)) (exact_mapped (λ x. told.BadFrame x) (picked reason_of u8_at) (IsNumber reason_number) (exact_number reason_number reason_of reason_again reason_picks))
    (reason_number why ∷ []) (told.BadFrame why) (record { first = why; says = refl; becomes = refl })

abbrev reason_in : Reason → ReplyFrame → Reason
reason_in other (told.BadFrame why) = why
reason_in other _ = other

blame_sound : (fields : List ℕ) (why : Reason) → IsBytes fields → told_in (129 ∷ fields) ≡ Some (told.BadFrame why) → fields ≡ 16 ∷ reason_number why ∷ []
unfolding told_in refused_at
blame_sound [] why fits is = absurd cc
blame_sound (n ∷ fields) why fits is =
    elim (n == 16) as (λ b. (n == 16) ≡ b → whole (cond b blaming (refusing (refusal_by n)) fields) ≡ Some (told.BadFrame why) → n ∷ fields ≡ 16 ∷ reason_number why ∷ []) [
      | true ↦ λ e h.
          let s = whole_sound blaming (Becomes (IsNumber reason_number) (λ x. told.BadFrame x)) (exact_mapped (λ x. told.BadFrame x) (picked reason_of u8_at) (IsNumber reason_number) (exact_number reason_number reason_of reason_again reason_picks))
          fields (told.BadFrame why) (bytes-rest n fields fits) h in
          λ i. eq_is n 16 e i ∷ (s.says ∙ ap (λ (x : Reason). reason_number x ∷ []) (ap (reason_in why) s.becomes)) i
      | false ↦ λ e h. let never : told.Refused _ ≡ told.BadFrame why = (change_of (λ r. told.Refused r) (refusal_by n) fields (told.BadFrame why) h).1 in absurd cc
    ] refl is

-- ---- the law
pub refusals_are_told : RefusalsAreTold
refusals_are_told = record {
  refused = λ fields r fits. (refused_sound fields r fits, λ w. subst (λ (z : List ℕ). told_in (129 ∷ z) ≡ Some (told.Refused r)) (sym w.0) (forwards r w.1));
  bad_frame = λ fields why fits. (blame_sound fields why fits, λ w. subst (λ (z : List ℕ). told_in (129 ∷ z) ≡ Some (told.BadFrame why)) (sym w) (blame_complete why));
}
