-- The shell reads what is written for it as it was.
use Rattle.std.proofs.Common.{rules, pos, negsuc, suc, ◌^◌, ◌≡◌, ℕ, ◌+◌, ◌*◌, ◌/◌, ◌%◌, ◌<◌, ◌≤◌, ◌==◌, true, false, Bool, cond, List, [], ◌∷◌, ◌++◌, refl, sym, ap, ◌∙◌, subst, arith, append_assoc, Option, Some, None}
use lib.Signed.{mag}
use Rattle.std.specs.Prelude.{ℤ, not, ◌&&◌, ◌||◌, codes}
use Rattle.std.specs.List.{AllByRecursion, flat_map, list_all}
use Rattle.std.specs.Fmt.{decimal, signed_decimal}
use Rattle.std.specs.Str.Parse.{AllDigits, IsNumeral}
use Rattle.std.proofs.lemmas.Fmt.{decimal_is_IsNumeral}
use Rattle.std.proofs.lemmas.Str.Parse.{digit_from_value}
use Rattle.tab_key.specs.Names.{is_name_byte, IsName}
use Rattle.tab_key.specs.Records.{Record}
use Rattle.tab_key.specs.declared.key.Kind.{Kind}
use Rattle.tab_key.specs.declared.key.Kind.TheVariants.{Put, Delete}
use Rattle.std.specs.Option.{option_map, option_and_then}
use Rattle.std.proofs.lemmas.List.{append-nil}
use Rattle.std.proofs.lemmas.Bool.Decides.{nat_tests}
use Rattle.tab_text.specs.Words.{is_plain, hex_digit, hex_form, word}
use Rattle.tab_text.specs.Lines.{after_spaces}
use Rattle.tab_text.specs.declared.escape.Escape.TheVariants.{Outside, Backslash, High}
use Rattle.tab_accumulo.specs.Words.{shell_byte, shell_bytes, term_byte, term_bytes, quoted}
use Rattle.tab_accumulo.specs.Lines.{kind_words}
use Rattle.tab_accumulo.proofs.Tests.{both}
use Rattle.tab_accumulo.specs.Shell.{any_hex, ended, Next, goes_on, tokens_from, tokens, spaced, AreBytes, HasBytes, kind_tokens, between_commas, is_word_byte, is_plain_word, PlainLinesAreRead, SplitsAreRead, RecordsAreRead, TermsAreRead}

-- ---- within double quotes
abbrev in_quotes : List ℕ → List ℕ → Option (List (List ℕ))
in_quotes t rest = tokens_from (Some 34) Outside t rest

-- what is read behind a byte
abbrev behind : List ℕ → Option Next → Option (List (List ℕ))
behind rest = option_and_then (λ (n : Next). option_map (λ later. n.tokens ++ later) (tokens_from n.quote n.escape n.token rest))

no_token : (o : Option (List (List ℕ))) → option_map (λ (later : List (List ℕ)). later) o ≡ o
no_token None = refl
no_token (Some ts) = refl

-- the text is read as these bytes, wherever it stands
abbrev pub ReadsOn : List ℕ → List ℕ → Type 0
ReadsOn text bytes = (t rest : List ℕ) → in_quotes t (text ++ rest) ≡ in_quotes (t ++ bytes) rest

pub reads_none : ReadsOn [] []
reads_none t rest = ap (λ u. in_quotes u rest) (sym (append-nil t))

pub reads_more : (a x c y : List ℕ) → ReadsOn a x → ReadsOn c y → ReadsOn (a ++ c) (x ++ y)
reads_more a x c y p q t rest = ap (in_quotes t) (append_assoc a c rest) ∙ p t (c ++ rest) ∙ q (t ++ x) rest ∙ ap (λ u. in_quotes u rest) (append_assoc t x y)

pub reads_each : (f : ℕ → List ℕ) → ((b : ℕ) → b < 256 → ReadsOn (f b) (b ∷ [])) → (bs : List ℕ) → AreBytes bs → ReadsOn (flat_map f bs) bs
reads_each f one [] all = reads_none
reads_each f one (b ∷ bs) all = reads_more (f b) (b ∷ []) (flat_map f bs) bs (one b (all.0)) (reads_each f one bs (all.1))

-- a byte that stands for itself
reads_plain : (b : ℕ) → (b == 34) ≡ false → (b == 92) ≡ false → ReadsOn (b ∷ []) (b ∷ [])
reads_plain b quote slash t rest =
    let other : Option Next = goes_on (Some 34) Outside (t ++ b ∷ []) in
    ap (λ (x : Bool). behind rest (cond x (Some (record { tokens = t ∷ []; quote = None; escape = Outside; token = [] })) (cond (b == 92) (goes_on (Some 34) Backslash t) other))) quote
    ∙ ap (λ (x : Bool). behind rest (cond x (goes_on (Some 34) Backslash t) other)) slash ∙ no_token (in_quotes (t ++ b ∷ []) rest)

-- a backslash, doubled
reads_slash : ReadsOn (92 ∷ 92 ∷ []) (92 ∷ [])
reads_slash t rest = no_token (option_map (λ (later : List (List ℕ)). later) (in_quotes (t ++ 92 ∷ []) rest)) ∙ no_token (in_quotes (t ++ 92 ∷ []) rest)

any_hex-hex_digit : (n : ℕ) → n < 16 → any_hex (hex_digit n) ≡ Some n
any_hex-hex_digit n lt = grind (arith, nat_tests)

-- `\x` and two digits
reads_hex : (b : ℕ) → b < 256 → ReadsOn (hex_form b) (b ∷ [])
reads_hex b lt t rest =
    let high : any_hex (hex_digit (b / 16)) ≡ Some (b / 16) = any_hex-hex_digit (b / 16) (omega arith) in
    let low : any_hex (hex_digit (b % 16)) ≡ Some (b % 16) = any_hex-hex_digit (b % 16) (omega arith) in
    let whole : 16 * (b / 16) + b % 16 ≡ b = omega arith in
    let after : Option ℕ → Option (List (List ℕ)) = λ o. behind (hex_digit (b % 16) ∷ rest) (option_and_then (λ h. goes_on (Some 34) (High h) t) o) in
    let last : Option ℕ → Option (List (List ℕ)) = λ o. behind rest (option_and_then (λ l. goes_on (Some 34) Outside (t ++ (16 * (b / 16) + l) ∷ [])) o) in
    let same : List (List ℕ) → List (List ℕ) = λ later. later in
    no_token (option_map same (after (any_hex (hex_digit (b / 16))))) ∙ no_token (after (any_hex (hex_digit (b / 16)))) ∙ ap after high
    ∙ no_token (last (any_hex (hex_digit (b % 16)))) ∙ ap last low ∙ no_token (in_quotes (t ++ (16 * (b / 16) + b % 16) ∷ []) rest) ∙ ap (λ n. in_quotes (t ++ n ∷ []) rest) whole

-- a byte as a word of a script has it
reads_word : (b : ℕ) → b < 256 → (b == 34) ≡ false → ReadsOn (word (b ∷ [])) (b ∷ [])
reads_word b lt quote =
    elim (is_plain b) as (λ v. is_plain b ≡ v → ReadsOn (cond v (b ∷ []) (cond (b == 92) (92 ∷ 92 ∷ []) (hex_form b)) ++ []) (b ∷ [])) [
      | true ↦ λ is. let slash : (b == 92) ≡ false = grind (arith, nat_tests, is) in reads_plain b quote slash
      | false ↦ λ is. elim (b == 92) as (λ v. (b == 92) ≡ v → ReadsOn (cond v (92 ∷ 92 ∷ []) (hex_form b) ++ []) (b ∷ [])) [
        | true ↦ λ slash.
            let same : 92 ≡ b = grind (arith, nat_tests) in
            let P : ℕ → Type 0 = λ n. ReadsOn (92 ∷ 92 ∷ []) (n ∷ []) in subst P same reads_slash
        | false ↦ λ other. reads_hex b lt
      ] refl
    ] refl

pub reads_shell_byte : (b : ℕ) → b < 256 → ReadsOn (shell_byte b) (b ∷ [])
reads_shell_byte b lt =
    elim (b == 34) as (λ v. (b == 34) ≡ v → ReadsOn (cond v (codes "\\x22") (word (b ∷ []))) (b ∷ [])) [
      | true ↦ λ quote.
          let same : 34 ≡ b = grind (arith, nat_tests) in
          let P : ℕ → Type 0 = λ n. ReadsOn (hex_form 34) (n ∷ []) in subst P same (reads_hex 34 (omega arith))
      | false ↦ λ other. reads_word b lt other
    ] refl

pub reads_term_byte : (b : ℕ) → b < 256 → ReadsOn (term_byte b) (b ∷ [])
reads_term_byte b lt =
    elim (b == 44) as (λ v. (b == 44) ≡ v → ReadsOn (cond v (codes "\\x2c") (shell_byte b)) (b ∷ [])) [
      | true ↦ λ comma.
          let same : 44 ≡ b = grind (arith, nat_tests) in
          let P : ℕ → Type 0 = λ n. ReadsOn (hex_form 44) (n ∷ []) in subst P same (reads_hex 44 (omega arith))
      | false ↦ λ other. reads_shell_byte b lt
    ] refl

-- authorizations, with a comma before each
pub reads_terms : (xs : List (List ℕ)) → AllByRecursion AreBytes xs → ReadsOn (flat_map (λ y. 44 ∷ term_bytes y) xs) (flat_map (λ y. 44 ∷ y) xs)
reads_terms [] all = reads_none
reads_terms (x ∷ xs) all =
    let text : List ℕ = term_bytes x in
    let comma : ReadsOn (44 ∷ []) (44 ∷ []) = reads_plain 44 refl refl in
    reads_more (44 ∷ text) (44 ∷ x) (flat_map (λ y. 44 ∷ term_bytes y) xs) (flat_map (λ y. 44 ∷ y) xs)
    (reads_more (44 ∷ []) (44 ∷ []) text x comma (reads_each term_byte reads_term_byte x all.0)) (reads_terms xs all.1)

-- ---- words on a line
-- the word is read from its text, whatever words follow
abbrev pub IsRead : List ℕ → List ℕ → Type 0
IsRead text word = (later : List (List ℕ)) → tokens (spaced (text ∷ later)) ≡ option_map (λ ws. word ∷ ws) (tokens (spaced later))

-- what stands between quotes
pub read_quoted : (text bytes : List ℕ) → ReadsOn text bytes → IsRead (34 ∷ (text ++ 34 ∷ [])) bytes
read_quoted text bytes reads [] =
    no_token (in_quotes [] ((text ++ 34 ∷ []) ++ [])) ∙ ap (in_quotes []) (append_assoc text (34 ∷ []) []) ∙ reads [] (34 ∷ [])
read_quoted text bytes reads (w ∷ ws) =
    let rest : List ℕ = after_spaces (w ∷ ws) in
    no_token (in_quotes [] ((text ++ 34 ∷ []) ++ rest)) ∙ ap (in_quotes []) (append_assoc text (34 ∷ []) rest) ∙ reads [] (34 ∷ rest)
    ∙ ap (option_map (λ ws. bytes ∷ ws)) (no_token (tokens (spaced (w ∷ ws))))

-- a byte that ends no word, and begins no quote and no escape
abbrev pub IsWordByte : ℕ → Type 0
IsWordByte b = ((b == 34 || b == 39) ≡ false) × ((b == 32) ≡ false) × ((b == 92) ≡ false)

one_byte : (b : ℕ) (t rest : List ℕ) → IsWordByte b → tokens_from None Outside t (b ∷ rest) ≡ tokens_from None Outside (t ++ b ∷ []) rest
one_byte b t rest is =
    let other : Option Next = goes_on None Outside (t ++ b ∷ []) in
    let slash : Option Next = goes_on None Backslash t in
    let space : Option Next = Some (record { tokens = ended t; quote = None; escape = Outside; token = [] }) in
    ap (λ (x : Bool). behind rest (cond x (Some (record { tokens = ended t; quote = Some b; escape = Outside; token = [] })) (cond (b == 32) space (cond (b == 92) slash other)))) is.0
    ∙ ap (λ (x : Bool). behind rest (cond x space (cond (b == 92) slash other))) is.1 ∙ ap (λ (x : Bool). behind rest (cond x slash other)) is.2
    ∙ no_token (tokens_from None Outside (t ++ b ∷ []) rest)

word_bytes : (w t rest : List ℕ) → AllByRecursion IsWordByte w → tokens_from None Outside t (w ++ rest) ≡ tokens_from None Outside (t ++ w) rest
word_bytes [] t rest all = ap (λ u. tokens_from None Outside u rest) (sym (append-nil t))
word_bytes (b ∷ bs) t rest all = one_byte b t (bs ++ rest) all.0 ∙ word_bytes bs (t ++ b ∷ []) rest all.1 ∙ ap (λ u. tokens_from None Outside u rest) (append_assoc t (b ∷ []) bs)

-- a word that stands as it is
pub read_word : (b : ℕ) (bs : List ℕ) → AllByRecursion IsWordByte (b ∷ bs) → IsRead (b ∷ bs) (b ∷ bs)
read_word b bs all [] = word_bytes (b ∷ bs) [] [] all
read_word b bs all (w ∷ ws) = word_bytes (b ∷ bs) [] (after_spaces (w ∷ ws)) all

-- the same, where a test says it of each byte
not_true : (x : Bool) → not x ≡ true → x ≡ false
not_true true is = absurd cc
not_true false is = refl

word_byte : (b : ℕ) → is_word_byte b ≡ true → IsWordByte b
word_byte b is =
    let all = both (not (b == 34 || b == 39)) (not (b == 32) && not (b == 92)) is in
    let last = both (not (b == 32)) (not (b == 92)) all.1 in
    (not_true (b == 34 || b == 39) all.0, not_true (b == 32) last.0, not_true (b == 92) last.1)

word_bytes_are : (bs : List ℕ) → list_all is_word_byte bs ≡ true → AllByRecursion IsWordByte bs
word_bytes_are [] all = tt
word_bytes_are (b ∷ bs) all = let each = both (is_word_byte b) (list_all is_word_byte bs) all in (word_byte b each.0, word_bytes_are bs each.1)

-- a word of the shell's own language
read_fixed : (b : ℕ) (bs : List ℕ) → list_all is_word_byte (b ∷ bs) ≡ true → IsRead (b ∷ bs) (b ∷ bs)
read_fixed b bs all = read_word b bs (word_bytes_are (b ∷ bs) all)

-- ---- the words of lines
digit_is : (c : ℕ) → 48 ≤ c → c ≤ 57 → IsWordByte c
digit_is c low high = (grind (arith, nat_tests, low, high), grind (arith, nat_tests, low, high), grind (arith, nat_tests, low, high))

digits_are : (ds : List ℕ) → AllDigits 10 ds → AllByRecursion IsWordByte ds
digits_are [] all = tt
digits_are (c ∷ cs) all = let r = digit_from_value c all.0 in (digit_is c r.0 r.1, digits_are cs all.1)

read_digits : (ds : List ℕ) → IsNumeral 10 ds → IsRead ds ds
read_digits [] is = absurd (omega (arith, is.0))
read_digits (c ∷ cs) is = read_word c cs (digits_are (c ∷ cs) is.1)

read_signed : (z : ℤ) → mag z < 2 ^ 63 → IsRead (signed_decimal z) (signed_decimal z)
read_signed (pos n) small = read_digits (decimal n) (decimal_is_IsNumeral n (omega arith)).0
read_signed (negsuc n) small = read_word 45 (decimal (suc n)) ((refl, refl, refl), digits_are (decimal (suc n)) (decimal_is_IsNumeral (suc n) (omega arith)).0.1)

name_byte_is : (b : ℕ) → is_name_byte b ≡ true → IsWordByte b
name_byte_is b is = (grind (arith, nat_tests, is), grind (arith, nat_tests, is), grind (arith, nat_tests, is))

name_bytes_are : (bs : List ℕ) → list_all is_name_byte bs ≡ true → AllByRecursion IsWordByte bs
name_bytes_are [] all = tt
name_bytes_are (b ∷ bs) all = let each = both (is_name_byte b) (list_all is_name_byte bs) all in (name_byte_is b each.0, name_bytes_are bs each.1)

read_name : (name : List ℕ) → IsName name → IsRead name name
read_name [] is = absurd (omega (arith, is.0))
read_name (b ∷ bs) is = let all : list_all is_name_byte (b ∷ bs) ≡ true = search (rules, is.2) in read_word b bs (name_bytes_are (b ∷ bs) all)

read_bytes : (bytes : List ℕ) → AreBytes bytes → IsRead (quoted bytes) bytes
read_bytes bytes are = read_quoted (shell_bytes bytes) bytes (reads_each shell_byte reads_shell_byte bytes are)

-- the next word, and those behind it
then_more : (text word : List ℕ) (texts words : List (List ℕ)) → IsRead text word → tokens (spaced texts) ≡ Some words → tokens (spaced (text ∷ texts)) ≡ Some (word ∷ words)
then_more text word texts words is later = is texts ∙ ap (option_map (λ (ws : List (List ℕ)). word ∷ ws)) later

-- label and timestamp, and the words behind them, of either kind of a record
headed : (command : List ℕ) (r : Record) (texts words : List (List ℕ)) → IsRead command command → HasBytes r → tokens (spaced texts) ≡ Some words
    → tokens (spaced (command ∷ codes "-l" ∷ quoted r.key.label ∷ codes "-ts" ∷ signed_decimal r.key.timestamp ∷ codes "--" ∷ texts))
    ≡ Some (command ∷ codes "-l" ∷ r.key.label ∷ codes "-ts" ∷ signed_decimal r.key.timestamp ∷ codes "--" ∷ words)
headed command r texts words is are later =
    let label : List ℕ = r.key.label in
    let time : List ℕ = signed_decimal r.key.timestamp in
    let end = then_more (codes "--") (codes "--") texts words (read_fixed 45 (45 ∷ []) refl) later in
    let timed = then_more time time (codes "--" ∷ texts) (codes "--" ∷ words) (read_signed r.key.timestamp are.timestamp) end in
    let stamp = then_more (codes "-ts") (codes "-ts") (time ∷ codes "--" ∷ texts) (time ∷ codes "--" ∷ words) (read_fixed 45 (116 ∷ 115 ∷ []) refl) timed in
    let labelled = then_more (quoted label) label (codes "-ts" ∷ time ∷ codes "--" ∷ texts) (codes "-ts" ∷ time ∷ codes "--" ∷ words) (read_bytes label are.label) stamp in
    let option = then_more (codes "-l") (codes "-l") (quoted label ∷ codes "-ts" ∷ time ∷ codes "--" ∷ texts) (label ∷ codes "-ts" ∷ time ∷ codes "--" ∷ words) (read_fixed 45 (108 ∷ []) refl) labelled in
    then_more command command (codes "-l" ∷ quoted label ∷ codes "-ts" ∷ time ∷ codes "--" ∷ texts) (codes "-l" ∷ label ∷ codes "-ts" ∷ time ∷ codes "--" ∷ words) is option

-- the row and the column, and the words behind them
placed : (r : Record) (texts words : List (List ℕ)) → HasBytes r → tokens (spaced texts) ≡ Some words
    → tokens (spaced (quoted r.key.row ∷ quoted r.key.family ∷ quoted r.key.qualifier ∷ texts)) ≡ Some (r.key.row ∷ r.key.family ∷ r.key.qualifier ∷ words)
placed r texts words are later =
    let k = r.key in
    let qualified = then_more (quoted k.qualifier) k.qualifier texts words (read_bytes k.qualifier are.qualifier) later in
    let within = then_more (quoted k.family) k.family (quoted k.qualifier ∷ texts) (k.qualifier ∷ words) (read_bytes k.family are.family) qualified in
    then_more (quoted k.row) k.row (quoted k.family ∷ quoted k.qualifier ∷ texts) (k.family ∷ k.qualifier ∷ words) (read_bytes k.row are.row) within

kind_is_read : (kind : Kind) (r : Record) → HasBytes r → tokens (spaced (kind_words kind r)) ≡ Some (kind_tokens kind r)
kind_is_read Put r are =
    let value = then_more (quoted r.value) r.value [] [] (read_bytes r.value are.value) refl in
    headed (codes "insert") r (quoted r.key.row ∷ quoted r.key.family ∷ quoted r.key.qualifier ∷ quoted r.value ∷ []) (r.key.row ∷ r.key.family ∷ r.key.qualifier ∷ r.value ∷ [])
    (read_fixed 105 (110 ∷ 115 ∷ 101 ∷ 114 ∷ 116 ∷ []) refl) are (placed r (quoted r.value ∷ []) (r.value ∷ []) are value)
kind_is_read Delete r are =
    headed (codes "delete") r (quoted r.key.row ∷ quoted r.key.family ∷ quoted r.key.qualifier ∷ []) (r.key.row ∷ r.key.family ∷ r.key.qualifier ∷ [])
    (read_fixed 100 (101 ∷ 108 ∷ 101 ∷ 116 ∷ 101 ∷ []) refl) are (placed r [] [] are refl)

pub plain_lines_are_read : PlainLinesAreRead
plain_lines_are_read [] all = refl
plain_lines_are_read ([] ∷ ws) all = absurd cc
plain_lines_are_read ((b ∷ bs) ∷ ws) all =
    let each = both (is_plain_word (b ∷ bs)) (list_all is_plain_word ws) all in
    then_more (b ∷ bs) (b ∷ bs) ws ws (read_fixed b bs each.0) (plain_lines_are_read ws each.1)

pub splits_are_read : SplitsAreRead
splits_are_read row are =
    let last = then_more (quoted row) row [] [] (read_bytes row are) refl in
    let dashed = then_more (codes "--") (codes "--") (quoted row ∷ []) (row ∷ []) (read_fixed 45 (45 ∷ []) refl) last in
    then_more (codes "addsplits") (codes "addsplits") (codes "--" ∷ quoted row ∷ []) (codes "--" ∷ row ∷ []) (read_fixed 97 (100 ∷ 100 ∷ 115 ∷ 112 ∷ 108 ∷ 105 ∷ 116 ∷ 115 ∷ []) refl) dashed

pub records_are_read : RecordsAreRead
records_are_read r are = kind_is_read r.kind r are

-- the option's word, between quotes
read_terms : (x : List ℕ) (xs : List (List ℕ)) → AreBytes x → AllByRecursion AreBytes xs → IsRead (34 ∷ (term_bytes x ++ (flat_map (λ y. 44 ∷ term_bytes y) xs ++ 34 ∷ []))) (between_commas x xs)
read_terms x xs first others =
    let text : List ℕ = flat_map (λ y. 44 ∷ term_bytes y) xs in
    let reads : ReadsOn (term_bytes x ++ text) (between_commas x xs) = reads_more (term_bytes x) x text (flat_map (λ y. 44 ∷ y) xs) (reads_each term_byte reads_term_byte x first) (reads_terms xs others) in
    let P : List ℕ → Type 0 = λ t. IsRead (34 ∷ t) (between_commas x xs) in
    subst P (append_assoc (term_bytes x) text (34 ∷ [])) (read_quoted (term_bytes x ++ text) (between_commas x xs) reads)

pub terms_are_read : TermsAreRead
terms_are_read name x xs is first others =
    let list : List ℕ = 34 ∷ (term_bytes x ++ (flat_map (λ y. 44 ∷ term_bytes y) xs ++ 34 ∷ [])) in
    let told : List ℕ = between_commas x xs in
    let last = then_more list told [] [] (read_terms x xs first others) refl in
    let set = then_more (codes "-s") (codes "-s") (list ∷ []) (told ∷ []) (read_fixed 45 (115 ∷ []) refl) last in
    let named = then_more name name (codes "-s" ∷ list ∷ []) (codes "-s" ∷ told ∷ []) (read_name name is) set in
    let user = then_more (codes "-u") (codes "-u") (name ∷ codes "-s" ∷ list ∷ []) (name ∷ codes "-s" ∷ told ∷ []) (read_fixed 45 (117 ∷ []) refl) named in
    then_more (codes "setauths") (codes "setauths") (codes "-u" ∷ name ∷ codes "-s" ∷ list ∷ []) (codes "-u" ∷ name ∷ codes "-s" ∷ told ∷ [])
    (read_fixed 115 (101 ∷ 116 ∷ 97 ∷ 117 ∷ 116 ∷ 104 ∷ 115 ∷ []) refl) user
