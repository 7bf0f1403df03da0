-- What the bytes of a frame ask is exactly what is read of them.
use Rattle.std.proofs.Common.{◌≡◌, ℕ, zero, suc, List, [], ◌∷◌, ◌++◌, Some, refl, sym, ap, subst, ◌∙◌}
use Rattle.tab_label.specs.Sets.{set_of}
use Rattle.tab_history.specs.declared.event.Act.TheVariants as act
use Rattle.tab_codec.specs.Parts.{IsBytes, IsU32, IsI64, IsField, IsNameField, IsCounted, IsList, IsBounds, time_byte, IsTime, IsVersions, IsConstraints}
use Rattle.tab_codec.specs.Reading.{◌>>=◌, Reader, and_then, mapped, given, whole, u32_at, i64_at, field_at, name_at, list_at, bounds_at, time_at, versions_at, constraints_at}
use Rattle.tab_codec.specs.Exactness.{Exact}
use Rattle.tab_codec.proofs.Exact.{Follows, exact_then, Becomes, exact_mapped, exact_given, exact_u32, whole_sound, whole_complete}
use Rattle.tab_codec.proofs.PartLaw.{exact_i64, exact_field, exact_name, exact_list}
use Rattle.tab_codec.proofs.TagLaw.{exact_bounds, exact_time, exact_versions, exact_constraints}
use Rattle.tab_wire.specs.declared.request.Request.{Request}
use Rattle.tab_wire.specs.declared.request.Request.TheVariants as asks
use Rattle.tab_wire.specs.FrameParts.{IsColumn, IsPermission, extent_byte, IsExtent, IsMutation}
use Rattle.tab_wire.specs.FrameReading.{columns_at, permission_at, extent_at, mutation_at, ranges_at}
use Rattle.tab_wire.specs.Requests.{create_table_at, set_auths_at, grant_at, revoke_at, set_constraints_at, write_at, open_at, next_at, many_at, close_at, compact_at, add_split_at, set_versions_at, set_horizon_at, opcode_of, fields_at, request_in}
use Rattle.tab_wire.specs.Forms.{IsRequest, hello, create_table, drop_table, create_user, drop_user, set_auths, grant, revoke, set_constraints, write, opens, next, many, close, flush, compact, add_split, splits, status, rights, set_versions, set_horizon, rotate, RequestsAreForms}
use Rattle.tab_wire.proofs.FrameLaw.{exact_columns, exact_permission, exact_extent, exact_ranges}
use Rattle.tab_wire.proofs.WriteLaw.{coded_mutation as exact_mutation}

-- ---- each opcode
-- one part
abbrev One : {A : Type 0} → (List ℕ → A → Type 0) → (A → Request) → List ℕ → Request → Type 0
One IsA says = Becomes IsA says

-- two parts
abbrev Two : {A B : Type 0} → (List ℕ → A → Type 0) → (List ℕ → B → Type 0) → (A → B → Request) → List ℕ → Request → Type 0
Two IsA IsB says = Follows IsA (λ a. Becomes IsB (says a))

exact_two : {A B : Type 0} (a : Reader A) (b : Reader B) (IsA : List ℕ → A → Type 0) (IsB : List ℕ → B → Type 0) (says : A → B → Request) → Exact a IsA → Exact b IsB → Exact (and_then a (λ x. mapped (says x) b)) (Two IsA IsB says)
exact_two a b IsA IsB says ea eb = exact_then a IsA (λ x. mapped (says x) b) (λ x. Becomes IsB (says x)) ea (λ x. exact_mapped (says x) b IsB eb)

-- three parts
abbrev Three : {A B C : Type 0} → (List ℕ → A → Type 0) → (List ℕ → B → Type 0) → (List ℕ → C → Type 0) → (A → B → C → Request) → List ℕ → Request → Type 0
Three IsA IsB IsC says = Follows IsA (λ a. Two IsB IsC (says a))

exact_three : {A B C : Type 0} (a : Reader A) (b : Reader B) (c : Reader C) (IsA : List ℕ → A → Type 0) (IsB : List ℕ → B → Type 0) (IsC : List ℕ → C → Type 0) (says : A → B → C → Request)
    → Exact a IsA → Exact b IsB → Exact c IsC → Exact (and_then a (λ x. and_then b (λ y. mapped (says x y) c))) (Three IsA IsB IsC says)
exact_three a b c IsA IsB IsC says ea eb ec = exact_then a IsA (λ x. and_then b (λ y. mapped (says x y) c)) (λ x. Two IsB IsC (says x)) ea (λ x. exact_two b c IsB IsC (says x) eb ec)

-- four parts
abbrev Four : {A B C D : Type 0} → (List ℕ → A → Type 0) → (List ℕ → B → Type 0) → (List ℕ → C → Type 0) → (List ℕ → D → Type 0) → (A → B → C → D → Request) → List ℕ → Request → Type 0
Four IsA IsB IsC IsD says = Follows IsA (λ a. Three IsB IsC IsD (says a))

exact_four : {A B C D : Type 0} (a : Reader A) (b : Reader B) (c : Reader C) (d : Reader D) (IsA : List ℕ → A → Type 0) (IsB : List ℕ → B → Type 0) (IsC : List ℕ → C → Type 0) (IsD : List ℕ → D → Type 0) (says : A → B → C → D → Request)
    → Exact a IsA → Exact b IsB → Exact c IsC → Exact d IsD → Exact (and_then a (λ x. and_then b (λ y. and_then c (λ z. mapped (says x y z) d)))) (Four IsA IsB IsC IsD says)
exact_four a b c d IsA IsB IsC IsD says ea eb ec ed = exact_then a IsA (λ x. and_then b (λ y. and_then c (λ z. mapped (says x y z) d))) (λ x. Three IsB IsC IsD (says x)) ea (λ x. exact_three b c d IsB IsC IsD (says x) eb ec ed)

one_complete : {A : Type 0} (a : Reader A) (IsA : List ℕ → A → Type 0) (says : A → Request) → Exact a IsA → (p : List ℕ) (x : A) → IsA p x → whole (mapped says a p) ≡ Some (says x)
one_complete a IsA says ea p x is = whole_complete (mapped says a) (One IsA says) (exact_mapped says a IsA ea) p (says x) (record { first = x; says = is; becomes = refl })

two_complete : {A B : Type 0} (a : Reader A) (b : Reader B) (IsA : List ℕ → A → Type 0) (IsB : List ℕ → B → Type 0) (says : A → B → Request) → Exact a IsA → Exact b IsB
    → (p q : List ℕ) (x : A) (y : B) → IsA p x → IsB q y → whole (and_then a (λ u. mapped (says u) b) (p ++ q)) ≡ Some (says x y)
two_complete a b IsA IsB says ea eb p q x y is_a is_b = whole_complete (and_then a (λ u. mapped (says u) b)) (Two IsA IsB says) (exact_two a b IsA IsB says ea eb) (p ++ q) (says x y)
    (record { first = x; front = p; back = q; parts = refl; says = is_a; next = record { first = y; says = is_b; becomes = refl } })

three_complete : {A B C : Type 0} (a : Reader A) (b : Reader B) (c : Reader C) (IsA : List ℕ → A → Type 0) (IsB : List ℕ → B → Type 0) (IsC : List ℕ → C → Type 0) (says : A → B → C → Request) → Exact a IsA → Exact b IsB → Exact c IsC
    → (p q r : List ℕ) (x : A) (y : B) (z : C) → IsA p x → IsB q y → IsC r z → whole (and_then a (λ u. and_then b (λ v. mapped (says u v) c)) (p ++ (q ++ r))) ≡ Some (says x y z)
three_complete a b c IsA IsB IsC says ea eb ec p q r x y z is_a is_b is_c =
    whole_complete (and_then a (λ u. and_then b (λ v. mapped (says u v) c))) (Three IsA IsB IsC says) (exact_three a b c IsA IsB IsC says ea eb ec) (p ++ (q ++ r)) (says x y z)
    (record { first = x; front = p; back = q ++ r; parts = refl; says = is_a; next = record { first = y; front = q; back = r; parts = refl; says = is_b; next = record { first = z; says = is_c; becomes = refl } } })

four_complete : {A B C D : Type 0} (a : Reader A) (b : Reader B) (c : Reader C) (d : Reader D) (IsA : List ℕ → A → Type 0) (IsB : List ℕ → B → Type 0) (IsC : List ℕ → C → Type 0) (IsD : List ℕ → D → Type 0) (says : A → B → C → D → Request) → Exact a IsA → Exact b IsB → Exact c IsC → Exact d IsD
    → (p q r s : List ℕ) (x : A) (y : B) (z : C) (w : D) → IsA p x → IsB q y → IsC r z → IsD s w → whole (and_then a (λ u. and_then b (λ v. and_then c (λ t. mapped (says u v t) d))) (p ++ (q ++ (r ++ s)))) ≡ Some (says x y z w)
four_complete a b c d IsA IsB IsC IsD says ea eb ec ed p q r s x y z w is_a is_b is_c is_d =
    whole_complete (and_then a (λ u. and_then b (λ v. and_then c (λ t. mapped (says u v t) d)))) (Four IsA IsB IsC IsD says) (exact_four a b c d IsA IsB IsC IsD says ea eb ec ed) (p ++ (q ++ (r ++ s))) (says x y z w)
    (record { first = x; front = p; back = q ++ (r ++ s); parts = refl; says = is_a; next = record { first = y; front = q; back = r ++ s; parts = refl; says = is_b; next = record { first = z; front = r; back = s; parts = refl; says = is_c; next = record { first = w; says = is_d; becomes = refl } } } })

-- ---- backwards
-- the form stands at these bytes and this request
at_form : (k : ℕ) (fields parts : List ℕ) (x y : Request) → fields ≡ parts → x ≡ y → IsRequest (k ∷ parts) x → IsRequest (k ∷ fields) y
at_form k fields parts x y fields_are e form = subst (λ (r : Request). IsRequest (k ∷ fields) r) e (subst (λ (z : List ℕ). IsRequest z x) (ap (λ (z : List ℕ). k ∷ z) (sym fields_are)) form)

one_sound : {A : Type 0} (a : Reader A) (IsA : List ℕ → A → Type 0) (says : A → Request) → Exact a IsA → (k : ℕ) (fields : List ℕ) (r : Request) → IsBytes fields → whole (mapped says a fields) ≡ Some r
    → ((p : List ℕ) (x : A) → IsA p x → IsRequest (k ∷ p) (says x)) → IsRequest (k ∷ fields) r
one_sound a IsA says ea k fields r fits is form =
    let h = whole_sound (mapped says a) (One IsA says) (exact_mapped says a IsA ea) fields r fits is in
    at_form k fields fields (says h.first) r refl h.becomes (form fields h.first h.says)

two_sound : {A B : Type 0} (a : Reader A) (b : Reader B) (IsA : List ℕ → A → Type 0) (IsB : List ℕ → B → Type 0) (says : A → B → Request) → Exact a IsA → Exact b IsB → (k : ℕ) (fields : List ℕ) (r : Request) → IsBytes fields
    → whole (and_then a (λ u. mapped (says u) b) fields) ≡ Some r → ((p q : List ℕ) (x : A) (y : B) → IsA p x → IsB q y → IsRequest (k ∷ (p ++ q)) (says x y)) → IsRequest (k ∷ fields) r
two_sound a b IsA IsB says ea eb k fields r fits is form =
    let h = whole_sound (and_then a (λ u. mapped (says u) b)) (Two IsA IsB says) (exact_two a b IsA IsB says ea eb) fields r fits is in
    at_form k fields (h.front ++ h.back) (says h.first h.next.first) r h.parts h.next.becomes (form h.front h.back h.first h.next.first h.says h.next.says)

three_sound : {A B C : Type 0} (a : Reader A) (b : Reader B) (c : Reader C) (IsA : List ℕ → A → Type 0) (IsB : List ℕ → B → Type 0) (IsC : List ℕ → C → Type 0) (says : A → B → C → Request) → Exact a IsA → Exact b IsB → Exact c IsC → (k : ℕ) (fields : List ℕ) (r : Request) → IsBytes fields
    → whole (and_then a (λ u. and_then b (λ v. mapped (says u v) c)) fields) ≡ Some r → ((p q s : List ℕ) (x : A) (y : B) (z : C) → IsA p x → IsB q y → IsC s z → IsRequest (k ∷ (p ++ (q ++ s))) (says x y z)) → IsRequest (k ∷ fields) r
three_sound a b c IsA IsB IsC says ea eb ec k fields r fits is form =
    let h = whole_sound (and_then a (λ u. and_then b (λ v. mapped (says u v) c))) (Three IsA IsB IsC says) (exact_three a b c IsA IsB IsC says ea eb ec) fields r fits is in
    let i = h.next in
    at_form k fields (h.front ++ (i.front ++ i.back)) (says h.first i.first i.next.first) r (h.parts ∙ ap (λ (z : List ℕ). h.front ++ z) i.parts) i.next.becomes
    (form h.front i.front i.back h.first i.first i.next.first h.says i.says i.next.says)

four_sound : {A B C D : Type 0} (a : Reader A) (b : Reader B) (c : Reader C) (d : Reader D) (IsA : List ℕ → A → Type 0) (IsB : List ℕ → B → Type 0) (IsC : List ℕ → C → Type 0) (IsD : List ℕ → D → Type 0) (says : A → B → C → D → Request) → Exact a IsA → Exact b IsB → Exact c IsC → Exact d IsD → (k : ℕ) (fields : List ℕ) (r : Request) → IsBytes fields
    → whole (and_then a (λ u. and_then b (λ v. and_then c (λ t. mapped (says u v t) d))) fields) ≡ Some r → ((p q s t : List ℕ) (x : A) (y : B) (z : C) (w : D) → IsA p x → IsB q y → IsC s z → IsD t w → IsRequest (k ∷ (p ++ (q ++ (s ++ t)))) (says x y z w)) → IsRequest (k ∷ fields) r
four_sound a b c d IsA IsB IsC IsD says ea eb ec ed k fields r fits is form =
    let h = whole_sound (and_then a (λ u. and_then b (λ v. and_then c (λ t. mapped (says u v t) d)))) (Four IsA IsB IsC IsD says) (exact_four a b c d IsA IsB IsC IsD says ea eb ec ed) fields r fits is in
    let i = h.next in
    let j = i.next in
    at_form k fields (h.front ++ (i.front ++ (j.front ++ j.back))) (says h.first i.first j.first j.next.first) r (h.parts ∙ ap (λ (z : List ℕ). h.front ++ z) (i.parts ∙ ap (λ (z : List ℕ). i.front ++ z) j.parts)) j.next.becomes
    (form h.front i.front j.front j.back h.first i.first j.first j.next.first h.says i.says j.says j.next.says)

-- ---- each opcode, backwards
request_sound : (op : ℕ) (fields : List ℕ) (r : Request) → IsBytes fields → (opcode_of op >>= λ opcode. whole (fields_at opcode fields)) ≡ Some r → IsRequest (op ∷ fields) r
unfolding create_table_at set_auths_at grant_at revoke_at set_constraints_at write_at open_at next_at many_at close_at compact_at add_split_at set_versions_at set_horizon_at
request_sound zero fields r fits is = absurd cc
request_sound (suc zero) fields r fits is = one_sound name_at IsNameField (λ user. asks.Hello user) exact_name 1 fields r fits is (λ p x a. hello p x a)
request_sound (suc (suc zero)) fields r fits is = three_sound name_at time_at versions_at IsNameField IsTime IsVersions (λ t m v. asks.Act (act.CreateTable t m v)) exact_name exact_time exact_versions 2 fields r fits is (λ p q s x y z a b c. subst (λ (l : List ℕ). IsRequest (2 ∷ (p ++ l)) (asks.Act (act.CreateTable x y z))) (ap (λ (l : List ℕ). l ++ s) (sym b)) (create_table p s x y z a c))
request_sound (suc (suc (suc zero))) fields r fits is = one_sound name_at IsNameField (λ t. asks.Act (act.DropTable t)) exact_name 3 fields r fits is (λ p x a. drop_table p x a)
request_sound (suc (suc (suc (suc zero)))) fields r fits is = one_sound name_at IsNameField (λ t. asks.Act (act.CreateUser t)) exact_name 4 fields r fits is (λ p x a. create_user p x a)
request_sound (suc (suc (suc (suc (suc zero))))) fields r fits is = one_sound name_at IsNameField (λ t. asks.Act (act.DropUser t)) exact_name 5 fields r fits is (λ p x a. drop_user p x a)
request_sound (suc (suc (suc (suc (suc (suc zero)))))) fields r fits is = two_sound name_at list_at IsNameField IsList (λ u l. asks.Act (act.SetAuths u (set_of l))) exact_name exact_list 6 fields r fits is (λ p q x y a b. set_auths p q x y a b)
request_sound (suc (suc (suc (suc (suc (suc (suc zero))))))) fields r fits is = two_sound name_at permission_at IsNameField IsPermission (λ u p. asks.Act (act.Grant u p)) exact_name exact_permission 7 fields r fits is (λ p q x y a b. grant p q x y a b)
request_sound (suc (suc (suc (suc (suc (suc (suc (suc zero)))))))) fields r fits is = two_sound name_at permission_at IsNameField IsPermission (λ u p. asks.Act (act.Revoke u p)) exact_name exact_permission 8 fields r fits is (λ p q x y a b. revoke p q x y a b)
request_sound (suc (suc (suc (suc (suc (suc (suc (suc (suc zero))))))))) fields r fits is = two_sound name_at constraints_at IsNameField IsConstraints (λ t c. asks.Act (act.SetConstraints t c)) exact_name exact_constraints 9 fields r fits is (λ p q x y a b. set_constraints p q x y a b)
request_sound (suc (suc (suc (suc (suc (suc (suc (suc (suc (suc zero)))))))))) fields r fits is = two_sound name_at mutation_at IsNameField IsMutation (λ t m. asks.Act (act.Write t m)) exact_name exact_mutation 10 fields r fits is (λ p q x y a b. write p q x y a b)
request_sound (suc (suc (suc (suc (suc (suc (suc (suc (suc (suc (suc zero))))))))))) fields r fits is = four_sound name_at bounds_at columns_at list_at IsNameField IsBounds (IsCounted IsU32 IsColumn) IsList (λ t b c a. asks.Act (act.Open (record { table = t; bounds = b; columns = c; authorizations = set_of a }))) exact_name exact_bounds exact_columns exact_list 11 fields r fits is (λ p q s t x y z w a b c d. opens p q s t x y z w a b c d)
request_sound (suc (suc (suc (suc (suc (suc (suc (suc (suc (suc (suc (suc zero)))))))))))) fields r fits is = two_sound u32_at u32_at IsU32 IsU32 (λ k n. asks.Next k n) exact_u32 exact_u32 12 fields r fits is (λ p q x y a b. next p q x y a b)
request_sound (suc (suc (suc (suc (suc (suc (suc (suc (suc (suc (suc (suc (suc zero))))))))))))) fields r fits is = two_sound u32_at ranges_at IsU32 (IsCounted IsU32 IsBounds) (λ k rs. asks.Many k rs) exact_u32 exact_ranges 13 fields r fits is (λ p q x y a b. many p q x y a b)
request_sound (suc (suc (suc (suc (suc (suc (suc (suc (suc (suc (suc (suc (suc (suc zero)))))))))))))) fields r fits is = one_sound u32_at IsU32 (λ k. asks.Close k) exact_u32 14 fields r fits is (λ p x a. close p x a)
request_sound (suc (suc (suc (suc (suc (suc (suc (suc (suc (suc (suc (suc (suc (suc (suc zero))))))))))))))) fields r fits is = one_sound name_at IsNameField (λ t. asks.Act (act.Flush t)) exact_name 15 fields r fits is (λ p x a. flush p x a)
request_sound (suc (suc (suc (suc (suc (suc (suc (suc (suc (suc (suc (suc (suc (suc (suc (suc zero)))))))))))))))) fields r fits is = two_sound name_at extent_at IsNameField IsExtent (λ t f. asks.Act (act.Compact t f)) exact_name exact_extent 16 fields r fits is (λ p q x y a b. subst (λ (l : List ℕ). IsRequest (16 ∷ (p ++ l)) (asks.Act (act.Compact x y))) (sym b) (compact p x y a))
request_sound (suc (suc (suc (suc (suc (suc (suc (suc (suc (suc (suc (suc (suc (suc (suc (suc (suc zero))))))))))))))))) fields r fits is = two_sound name_at field_at IsNameField IsField (λ t r. asks.Act (act.AddSplit t r)) exact_name exact_field 17 fields r fits is (λ p q x y a b. add_split p q x y a b)
request_sound (suc (suc (suc (suc (suc (suc (suc (suc (suc (suc (suc (suc (suc (suc (suc (suc (suc (suc zero)))))))))))))))))) fields r fits is = one_sound name_at IsNameField (λ t. asks.Act (act.Splits t)) exact_name 18 fields r fits is (λ p x a. splits p x a)
request_sound (suc (suc (suc (suc (suc (suc (suc (suc (suc (suc (suc (suc (suc (suc (suc (suc (suc (suc (suc zero))))))))))))))))))) fields r fits is = one_sound name_at IsNameField (λ t. asks.Act (act.Status t)) exact_name 19 fields r fits is (λ p x a. status p x a)
request_sound (suc (suc (suc (suc (suc (suc (suc (suc (suc (suc (suc (suc (suc (suc (suc (suc (suc (suc (suc (suc zero)))))))))))))))))))) fields r fits is = one_sound name_at IsNameField (λ t. asks.Act (act.Rights t)) exact_name 20 fields r fits is (λ p x a. rights p x a)
request_sound (suc (suc (suc (suc (suc (suc (suc (suc (suc (suc (suc (suc (suc (suc (suc (suc (suc (suc (suc (suc (suc zero))))))))))))))))))))) fields r fits is = two_sound name_at versions_at IsNameField IsVersions (λ t v. asks.Act (act.SetVersions t v)) exact_name exact_versions 21 fields r fits is (λ p q x y a b. set_versions p q x y a b)
request_sound (suc (suc (suc (suc (suc (suc (suc (suc (suc (suc (suc (suc (suc (suc (suc (suc (suc (suc (suc (suc (suc (suc zero)))))))))))))))))))))) fields r fits is = two_sound name_at i64_at IsNameField IsI64 (λ t z. asks.Act (act.SetHorizon t z)) exact_name exact_i64 22 fields r fits is (λ p q x y a b. set_horizon p q x y a b)
request_sound (suc (suc (suc (suc (suc (suc (suc (suc (suc (suc (suc (suc (suc (suc (suc (suc (suc (suc (suc (suc (suc (suc (suc zero))))))))))))))))))))))) fields r fits is =
    let h = whole_sound (given (asks.Act act.Rotate)) (λ bytes y. (bytes ≡ []) × (asks.Act act.Rotate ≡ y)) (exact_given (asks.Act act.Rotate)) fields r fits is in
    at_form 23 fields [] (asks.Act act.Rotate) r h.0 h.1 rotate
request_sound (suc (suc (suc (suc (suc (suc (suc (suc (suc (suc (suc (suc (suc (suc (suc (suc (suc (suc (suc (suc (suc (suc (suc (suc n)))))))))))))))))))))))) fields r fits is = absurd cc

-- ---- each opcode, forwards
request_complete : (bytes : List ℕ) (r : Request) → IsRequest bytes r → request_in bytes ≡ Some r
unfolding request_in create_table_at set_auths_at grant_at revoke_at set_constraints_at write_at open_at next_at many_at close_at compact_at add_split_at set_versions_at set_horizon_at
request_complete bytes r (hello p x a) = one_complete name_at IsNameField (λ user. asks.Hello user) exact_name p x a
request_complete bytes r (create_table p s x y z a c) = three_complete name_at time_at versions_at IsNameField IsTime IsVersions (λ t m v. asks.Act (act.CreateTable t m v)) exact_name exact_time exact_versions p (time_byte y ∷ []) s x y z a refl c
request_complete bytes r (drop_table p x a) = one_complete name_at IsNameField (λ t. asks.Act (act.DropTable t)) exact_name p x a
request_complete bytes r (create_user p x a) = one_complete name_at IsNameField (λ t. asks.Act (act.CreateUser t)) exact_name p x a
request_complete bytes r (drop_user p x a) = one_complete name_at IsNameField (λ t. asks.Act (act.DropUser t)) exact_name p x a
request_complete bytes r (set_auths p q x y a b) = two_complete name_at list_at IsNameField IsList (λ u l. asks.Act (act.SetAuths u (set_of l))) exact_name exact_list p q x y a b
request_complete bytes r (grant p q x y a b) = two_complete name_at permission_at IsNameField IsPermission (λ u p. asks.Act (act.Grant u p)) exact_name exact_permission p q x y a b
request_complete bytes r (revoke p q x y a b) = two_complete name_at permission_at IsNameField IsPermission (λ u p. asks.Act (act.Revoke u p)) exact_name exact_permission p q x y a b
request_complete bytes r (set_constraints p q x y a b) = two_complete name_at constraints_at IsNameField IsConstraints (λ t c. asks.Act (act.SetConstraints t c)) exact_name exact_constraints p q x y a b
request_complete bytes r (write p q x y a b) = two_complete name_at mutation_at IsNameField IsMutation (λ t m. asks.Act (act.Write t m)) exact_name exact_mutation p q x y a b
request_complete bytes r (opens p q s t x y z w a b c d) = four_complete name_at bounds_at columns_at list_at IsNameField IsBounds (IsCounted IsU32 IsColumn) IsList (λ t b c a. asks.Act (act.Open (record { table = t; bounds = b; columns = c; authorizations = set_of a }))) exact_name exact_bounds exact_columns exact_list p q s t x y z w a b c d
request_complete bytes r (next p q x y a b) = two_complete u32_at u32_at IsU32 IsU32 (λ k n. asks.Next k n) exact_u32 exact_u32 p q x y a b
request_complete bytes r (many p q x y a b) = two_complete u32_at ranges_at IsU32 (IsCounted IsU32 IsBounds) (λ k rs. asks.Many k rs) exact_u32 exact_ranges p q x y a b
request_complete bytes r (close p x a) = one_complete u32_at IsU32 (λ k. asks.Close k) exact_u32 p x a
request_complete bytes r (flush p x a) = one_complete name_at IsNameField (λ t. asks.Act (act.Flush t)) exact_name p x a
request_complete bytes r (compact p x y a) = two_complete name_at extent_at IsNameField IsExtent (λ t f. asks.Act (act.Compact t f)) exact_name exact_extent p (extent_byte y ∷ []) x y a refl
request_complete bytes r (add_split p q x y a b) = two_complete name_at field_at IsNameField IsField (λ t r. asks.Act (act.AddSplit t r)) exact_name exact_field p q x y a b
request_complete bytes r (splits p x a) = one_complete name_at IsNameField (λ t. asks.Act (act.Splits t)) exact_name p x a
request_complete bytes r (status p x a) = one_complete name_at IsNameField (λ t. asks.Act (act.Status t)) exact_name p x a
request_complete bytes r (rights p x a) = one_complete name_at IsNameField (λ t. asks.Act (act.Rights t)) exact_name p x a
request_complete bytes r (set_versions p q x y a b) = two_complete name_at versions_at IsNameField IsVersions (λ t v. asks.Act (act.SetVersions t v)) exact_name exact_versions p q x y a b
request_complete bytes r (set_horizon p q x y a b) = two_complete name_at i64_at IsNameField IsI64 (λ t z. asks.Act (act.SetHorizon t z)) exact_name exact_i64 p q x y a b
request_complete bytes r rotate = refl

bytes_sound : (bytes : List ℕ) (r : Request) → IsBytes bytes → request_in bytes ≡ Some r → IsRequest bytes r
unfolding request_in
bytes_sound [] r fits is = absurd cc
bytes_sound (op ∷ fields) r fits is = request_sound op fields r (λ i. fits (suc i)) is

pub requests_are_forms : RequestsAreForms
requests_are_forms bytes r fits = (bytes_sound bytes r fits, request_complete bytes r)
