use Rattle.std.proofs.Common.{◌∙◌, List, ℕ, Bor, sym, ap}
use Rattle.std.specs.List.{position}
use Rattle.std.specs.Str.{bytes_eq}
use Rattle.job_files.proofs.Readings.{position_map}
use Rattle.job_files.proofs.names.Names.number_of.Goals as goal

pub returns : goal.returns
returns c =
    let word = c.args.word.now in
    let test = λ (name : List ℕ). bytes_eq name word in
    c.place_of.ensures
    ∙ ap (position (λ (other : Bor (List ℕ)). bytes_eq other.now word)) c.deref.ensures.value
    ∙ sym (position_map test (λ (w : Bor (List ℕ)). w.now) c.self.inside.words.items)
    ∙ ap (position test) c.self.view_is
