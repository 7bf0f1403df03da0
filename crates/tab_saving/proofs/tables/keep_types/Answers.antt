use Rattle.std.proofs.Common.{rules, ◌≡◌, ◌∙◌, ℕ, ◌≤◌, true, subst}
use Rattle.std.specs.Prelude.{◌&&◌, FitsSigned}
use Rattle.std.specs.Int.{w64}
use Rattle.std.proofs.lemmas.Bool.{le-leb}
use Rattle.tab_key.specs.declared.limited_part.TheConstants.{MAX_VERSIONS}
use Rattle.tab_rules.specs.Constraints.{constraint_set_of}
use Rattle.tab_history.specs.Settings.{is_version_count}
use Rattle.tab_saving.proofs.tables.keep_types.Goals as goal

counted : (n : ℕ) → 1 ≤ n → n ≤ MAX_VERSIONS → is_version_count n ≡ true
counted n least most = λ i. le-leb 1 n least i && le-leb n MAX_VERSIONS most i

pub returns : goal.returns
returns c =
    let horizon = c.args.table.now.settings.horizon in
    let fits : FitsSigned w64 horizon = search rules in
    record {
      name = c.as_bytes-bytes.ensures.valid;
      versions = subst (λ n. is_version_count n ≡ true) (c.get-count.ensures.value ∙ c.versions.ensures) (counted c.get-count.result c.get-count.ensures.least c.get-count.ensures.most);
      constraints = subst (λ cs. constraint_set_of cs ≡ cs) c.constraints.ensures c.keeps.ensures;
      horizon = fits;
    }
