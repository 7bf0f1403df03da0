use Rattle.std.proofs.Common.{◌∙◌, ap, ◌+◌, ◌/◌, ◌^◌, ◌-◌, ◌*◌, ℕ}
use Rattle.tab_key.proofs.WordLaws.{first_word}
use Rattle.tab_key.proofs.word.first_word.Goals as goal

pub returns : goal.returns
returns c = λ bytes eight all is. ap (λ (n : ℕ). (72057594037927936 + n / 256) / 2 ^ (56 - 8 * c.args.count)) is ∙ first_word c.args.count bytes c.requires eight all
