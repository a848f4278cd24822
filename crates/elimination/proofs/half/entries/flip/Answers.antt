use Rattle.std.proofs.Common.{ℕ, List, ◌++◌, map, get_or, set, ap, ◌∙◌, ap₂, append-nil, arith}
use Rattle.std.proofs.lemmas.List.Edits.{map_over_more}
use Rattle.std.proofs.lemmas.List.{get_or_default, take_all, drop_all}
use Rattle.matrices.proofs.Turns.{turned}
use Rattle.matrices.specs.Matrices.{add_column}
use Rattle.elimination.proofs.Additions.{flip_is}
use Rattle.elimination.proofs.half.entries.flip.Goals as goal

pub loop-word-preserved : goal.loop-word-preserved
loop-word-preserved c =
    let xs = c.args.words.now in
    let ys = c.loop-word.words in
    let i = c.loop-word.word-index in
    ap (set ys i) (flip_is c.args.from c.args.to (get_or ys i 0) c.requires.to)
    ∙ map_over_more (turned c.args.from c.args.to) xs ys i (get_or ys i 0) (omega arith) c.loop-word.invariant (get_or_default ys i 0 (get_or ys i 0) (omega arith))

pub returns : goal.returns
unfolding add_column
returns c =
    c.loop-word.invariant
    ∙ ap₂ (λ (a b : List ℕ). map (turned c.args.from c.args.to) a ++ b) (take_all c.loop-word.word-index c.args.words.now (omega arith)) (drop_all c.loop-word.word-index c.args.words.now (omega arith))
    ∙ append-nil _
