-- a number that is no row's may be the pid of a new process
use Rattle.std.proofs.Common.{◌≡◌, ◌==◌, ◌&&◌, ◌||◌, ℕ, Bool, true, false, not, List, ap, ◌∙◌, Some}
use Rattle.std.specs.Prelude.{nat_le}
use Rattle.std.specs.List.{list_any}
use Rattle.std.proofs.lemmas.Bool.{ne_eqb, le-leb}
use Rattle.process_table.specs.declared.Row.{Row}
use Rattle.process_table.specs.Rows.{row_of, AreDistinct}
use Rattle.kernel_rules.specs.Fork.{uses_number, is_fresh}
use Rattle.list_laws.proofs.Elements.{any_none_found}
use Rattle.kernel_laws.specs.Effects.{IsUnused}
use Rattle.kernel_laws.proofs.Rows.{number, distinct_from}

pub unused_fresh : (rows : List Row) (n : ℕ) → AreDistinct rows → IsUnused rows n → is_fresh rows n ≡ true
unused_fresh rows n d u =
    ap (λ b. b && (not (n == 999999) && not (list_any (uses_number n) rows))) (le-leb 2 n u.least)
    ∙ ap (λ b. not b && not (list_any (uses_number n) rows)) (ne_eqb n 999999 u.somebody)
    ∙ ap not (any_none_found number (uses_number n) rows (distinct_from rows d) none)
  where
    none : (c : Row) → row_of rows c.pid ≡ Some c → uses_number n c ≡ false
    none c here =
        ap (λ b. b || ((c.group.0 == n) || (c.session.0 == n))) (ne_eqb c.pid.0 n (u.no_pid c here))
        ∙ ap (λ b. b || (c.session.0 == n)) (ne_eqb c.group.0 n (u.no_group c here))
        ∙ ne_eqb c.session.0 n (u.no_session c here)
