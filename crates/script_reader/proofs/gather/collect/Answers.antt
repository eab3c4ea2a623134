use Rattle.std.proofs.Common.{◌≡◌, [], ◌∷◌, ◌++◌, map, List, true, false, sym, ap, ◌∙◌, arith}
use Rattle.std.proofs.lemmas.List.{map-append, append-nil}
use Rattle.std.proofs.lemmas.Grind.{common_steps}
use Rattle.script_words.specs.Words.{Word}
use Rattle.script_reader.specs.Files.{begins_with}
use Rattle.script_reader.proofs.Gathered.{words_behind-yes, words_behind-not}
use Rattle.script_reader.proofs.gather.collect.Goals as goal

pub returns-in_ok-push : goal.returns-in_ok-push
returns-in_ok-push c =
    let row = map (λ w. w.now) c.args.words.now in
    let old = map (λ w. w.now) c.args.found.now.items in
    let holds : begins_with c.args.first.now row ≡ true = sym c.begins_with.ensures ∙ c.if-begins_with.true in
    let pushed : c.push.new.self.items ≡ c.args.found.now.items ++ c.word_at.result ∷ [] = grind (arith, common_steps) in
    ap (map (λ w. w.now)) pushed ∙ map-append (λ w. w.now) c.args.found.now.items (c.word_at.result ∷ []) ∙ ap (λ (ws : List Word). old ++ ws) (ap (λ (w : Word). w ∷ []) c.word_at.ensures ∙ sym (words_behind-yes c.args.first.now c.args.at row holds))

pub returns-else-begins_with : goal.returns-else-begins_with
returns-else-begins_with c =
    let row = map (λ w. w.now) c.args.words.now in
    let old = map (λ w. w.now) c.args.found.now.items in
    let isnt : begins_with c.args.first.now row ≡ false = sym c.begins_with.ensures ∙ c.if-begins_with.false in
    sym (append-nil old) ∙ ap (λ (ws : List Word). old ++ ws) (sym (words_behind-not c.args.first.now c.args.at row isnt))
