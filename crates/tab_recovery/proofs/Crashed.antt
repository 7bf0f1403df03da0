-- What crashes leave of a journal that was written is taken up.
use Rattle.std.proofs.Common.{◌≡◌, ℕ, List, [], take, Option, Some, None, option_map, inl, inr, refl, sym, ap, subst, ◌∙◌}
use Rattle.tab_codec.proofs.Exact.{some_inj}
use Rattle.tab_journal.specs.Crashes.{IsReadFrom}
use Rattle.tab_journal.specs.Damage.{IsDamaged, read_of, EndsTorn}
use Rattle.tab_journal.specs.declared.seal.Seal.{Seal}
use Rattle.tab_journal.specs.Journals.{Header, Batch}
use Rattle.tab_journal.specs.Reading.{Journal, journal_of}
use Rattle.tab_journal.proofs.Crashing.{crashes_leave_beginnings}
use Rattle.tab_journal.proofs.Tearing.{crashes_leave_torn_ends}
use Rattle.tab_recovery.specs.TakingUp.{without_left, IsSound, KeepsAll, CrashesAreTakenUp}
use Rattle.tab_recovery.proofs.Beginnings.{both}

-- what ends torn is sound
sound_torn : (n : ℕ) (header : Header) (c : List ℕ) → EndsTorn n header c → IsSound c
sound_torn n header c t m (inl (none, long, zero)) = both t.0 (journal_of c) t.1 none
sound_torn n header c t m (inr (j, read, place, damaged)) =
    let same : j ≡ t.0 = some_inj j t.0 (sym read ∙ t.1) in
    let here : m ≡ read_of c t.0 = place ∙ ap (read_of c) same in
    let seals : j.header.seal ≡ header.seal = ap (λ (x : Journal). x.header.seal) same ∙ ap (λ (h : Header). h.seal) t.2 in
    t.4 (subst (λ (k : ℕ). IsDamaged header.seal k c) here (subst (λ (s : Seal). IsDamaged s m c) seals damaged))

-- of what keeps all, the same is read
read_by : (header : Header) (bs : List Batch) (d : List ℕ) (o : Option Journal) → journal_of d ≡ o → option_map without_left o ≡ Some (record { header = header; batches = bs; left = [] })
    → (left : List ℕ) × (journal_of d ≡ Some (record { header = header; batches = bs; left = left }))
read_by header bs d None is same = absurd cc
read_by header bs d (Some j) is same =
    let whole : without_left j ≡ record { header = header; batches = bs; left = [] } = some_inj _ _ same in
    (j.left, is ∙ ap (λ (x : Journal). Some (record x { left = j.left })) whole)

reads_same : (k : ℕ) (header : Header) (bs : List Batch) (c d : List ℕ) → KeepsAll c d → IsReadFrom k header bs c → IsReadFrom k header bs d
reads_same k header bs c d keeps r =
    let t = read_by header (take r.0 bs) d (journal_of d) refl (keeps.same ∙ ap (option_map without_left) r.3) in
    (r.0, t.0, r.2, t.1)

pub crashes_are_taken_up : CrashesAreTakenUp
crashes_are_taken_up bytes c d seal sum n k header bs fits written has none later keeps =
    let torn = crashes_leave_torn_ends bytes c seal sum n k header bs written has later in
    let read = crashes_leave_beginnings bytes c header bs n k fits written.first has none in
    (keeps.sound (sound_torn n header c torn), reads_same k header bs c d keeps read)
