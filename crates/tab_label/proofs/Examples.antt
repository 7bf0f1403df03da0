-- Worked examples.
use Rattle.std.proofs.Common.{◌≡◌, ℕ, ◌<◌, List, ◌∷◌, ◌++◌, length, refl, arith, replicate, true, false, [], Err, nat_lt, get_or, inl, inr}
use Rattle.std.specs.Prelude.{codes}
use Rattle.std.specs.List.{All, list_all}
use Rattle.std.proofs.lemmas.List.Sums.{AllPass-from_list_all}
use Rattle.std.proofs.lemmas.Bool.{ltb-true, cases_lt}
use Rattle.std.proofs.Math.ListN.{get_or-eq_default}
use Rattle.tab_label.specs.declared.joiner.Joiner.TheVariants.{And, Or}
use Rattle.tab_label.specs.Grammar.{TermOf, JoinOf, Start, With, Only_if, is_term_byte, Reads, IsNoLabel, IsOffset}
use Rattle.tab_label.specs.Machine.{step, ending, run}
use Rattle.tab_label.specs.Reading.{label_of, reads_on}
use Rattle.tab_label.specs.Holding.{label_holds}
use Rattle.tab_label.proofs.Sound.{IsByte}
use Rattle.tab_label.proofs.Runs.{run_reads, stops_at, stops_at_end}

all_bytes : (text : List ℕ) → list_all (λ b. nat_lt b 256) text ≡ true → All IsByte text
all_bytes text h = λ k d lt. ltb-true (get_or text k d) 256 (AllPass-from_list_all (λ b. nat_lt b 256) text h k d lt)

each_byte : (text : List ℕ) → list_all (λ b. nat_lt b 256) text ≡ true → (k : ℕ) → get_or text k 0 < 256
each_byte text h k = elim (cases_lt k (length text)) [ inl lt ↦ all_bytes text h k 0 lt | inr past ↦ rw (get_or-eq_default text 0 past) (omega arith) ]

mixed : IsNoLabel (codes "a|b&c") × IsOffset (codes "a|b&c") 3
unfolding run step is_term_byte
mixed = stops_at (codes "a|b&c") 3 _ (each_byte (codes "a|b&c") refl) (omega arith) refl refl

unfinished : IsNoLabel (codes "a&") × IsOffset (codes "a&") 2
unfolding run step ending is_term_byte
unfinished = stops_at_end (codes "a&") 2 _ (each_byte (codes "a&") refl) (omega arith) refl refl

deep_text : ℕ → List ℕ
deep_text n = replicate n 40 ++ (97 ∷ replicate n 41)

too_deep : IsNoLabel (deep_text 65) × IsOffset (deep_text 65) 64
unfolding run step ending is_term_byte deep_text
too_deep = stops_at (deep_text 65) 64 _ (each_byte (deep_text 65) refl) (omega arith) refl refl

nested : Reads (codes "a&(b|c)") (Only_if (JoinOf And (With (With Start (TermOf (codes "a"))) (JoinOf Or (With (With Start (TermOf (codes "b"))) (TermOf (codes "c")))))))
unfolding run step ending is_term_byte
nested = run_reads (codes "a&(b|c)") _ _ (all_bytes (codes "a&(b|c)") refl) refl refl

-- The functions compute on closed texts.
mixed_offset : label_of (codes "a|b&c") ≡ Err 3
unfolding label_of reads_on step ending is_term_byte
mixed_offset = refl

nested_holds : label_holds (codes "a&(b|c)") (codes "a" ∷ codes "c" ∷ []) ≡ true
unfolding label_of reads_on step ending is_term_byte
nested_holds = refl

nested_fails : label_holds (codes "a&(b|c)") (codes "b" ∷ codes "c" ∷ []) ≡ false
unfolding label_of reads_on step ending is_term_byte
nested_fails = refl
