use Rattle.std.proofs.Common.{ℕ, ◌∙◌, sym, ap}
use Rattle.std.specs.Prelude.{Vec}
use Rattle.std.specs.List.{list_all}
use Rattle.std.specs.declared.alloc.Global.{Global}
use Rattle.std.proofs.lemmas.List.Folds.{list_all-map}
use Rattle.tab_accumulo.specs.Carried.{is_term_word}
use Rattle.tab_accumulo.proofs.obstacle.are_carried.Goals as goal

pub returns : goal.returns
returns c =
    c.all_carried.ensures ∙ sym (list_all-map is_term_word (λ (v : Vec ℕ Global). v.items) c.terms.result.now) ∙ ap (list_all is_term_word) c.terms.ensures.all
