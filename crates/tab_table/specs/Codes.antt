-- For proofs. Two proofs that records are equal are one.
use Rattle.std.specs.Prelude.{◌≡◌, ℕ, ℤ, List, Bool, true, false, refl}
use Rattle.std.specs.Coded.{Coded, Coded-set, coded_ℕ, coded_ℤ, coded_bool, coded_list, coded×, code_by}
use Rattle.tab_key.specs.Records.{Key, Record}
use Rattle.tab_key.specs.declared.key.Kind.{Kind}
use Rattle.tab_key.specs.declared.key.Kind.TheVariants.{Delete, Put}

abbrev is_marked : Kind → Bool
is_marked Delete = false
is_marked Put = true

abbrev marked : Bool → Kind
marked false = Delete
marked true = Put

marked_back : (k : Kind) → marked (is_marked k) ≡ k
marked_back Delete = refl
marked_back Put = refl

abbrev coded_kind : Coded Kind
coded_kind = code_by Bool coded_bool is_marked marked marked_back

abbrev coded_key : Coded Key
coded_key = code_by (List ℕ × (List ℕ × (List ℕ × (List ℕ × ℤ)))) (coded× (coded_list coded_ℕ) (coded× (coded_list coded_ℕ) (coded× (coded_list coded_ℕ) (coded× (coded_list coded_ℕ) coded_ℤ)))) (λ k. (k.row, (k.family, (k.qualifier, (k.label, k.timestamp))))) (λ p. record { row = p.0; family = p.1.0; qualifier = p.1.1.0; label = p.1.1.1.0; timestamp = p.1.1.1.1 }) (λ _. refl)

abbrev coded_record : Coded Record
coded_record = code_by (Key × (Kind × (List ℕ × (ℕ × ℕ)))) (coded× coded_key (coded× coded_kind (coded× (coded_list coded_ℕ) (coded× coded_ℕ coded_ℕ)))) (λ r. (r.key, (r.kind, (r.value, (r.seq, r.idx))))) (λ p. record { key = p.0; kind = p.1.0; value = p.1.1.0; seq = p.1.1.1.0; idx = p.1.1.1.1 }) (λ _. refl)

pub key_set : (a b : Key) (p q : a ≡ b) → p ≡ q
key_set = Coded-set coded_key

pub record_set : (a b : Record) (p q : a ≡ b) → p ≡ q
record_set = Coded-set coded_record

pub records_set : (a b : List Record) (p q : a ≡ b) → p ≡ q
records_set = Coded-set (coded_list coded_record)
