-- which lines pass a limit, by their first words
use Rattle.std.proofs.Common.{◌≡◌, inl, inr, true, List, [], ◌∷◌, length, refl, sym, ap, ◌∙◌, Option, Some, None}
use Rattle.std.specs.Prelude.{codes, is_some}
use Rattle.std.proofs.lemmas.Bool.{eqb-true}
use Rattle.script_words.specs.declared.faults.Kind.{Kind}
use Rattle.script_words.specs.declared.faults.Kind.TheVariants.{TooManyScripts, TooManyStatements, TooManyStarts}
use Rattle.script_words.specs.Words.{Word, Row, is_same, word_at, is_skipped}
use Rattle.script_words.specs.declared.table.Verb.{Verb}
use Rattle.script_reader.specs.declared.lines.Head.{Head}
use Rattle.script_reader.specs.declared.lines.Head.TheVariants as head
use Rattle.script_words.specs.Table.{verb_named}
use Rattle.script_reader.specs.Lines.{head_of}
use Rattle.script_reader.specs.Files.{begins_with}
use Rattle.script_laws.proofs.Words.{same_words, verb_spelled}
use Rattle.script_laws.proofs.Heads.{verb_head, script_head, start_head}
use Rattle.fault_laws.specs.Context.{is_begun, is_open, is_statement, statement_count, script_names, start_names}
use Rattle.fault_laws.specs.Faults.{PassesLimit}
use Rattle.unix_calls.specs.declared.limits.TheConstants.{MOST_SCRIPTS, MOST_STATEMENTS, MOST_STARTS}

-- ---- what lines begin with
hash_head : (cs : Word) → head_of (35 ∷ cs) ≡ head.Unknown
unfolding head_of verb_named is_same
hash_head cs = refl {a = head.Unknown}

none_head : head_of [] ≡ head.Unknown
unfolding head_of verb_named is_same
none_head = refl {a = head.Unknown}

-- a line that is skipped begins as no other
pub skipped_head : (row : Row) → is_skipped row ≡ true → head_of (word_at row 0) ≡ head.Unknown
unfolding is_skipped word_at
skipped_head [] e = none_head
skipped_head ([] ∷ ws) e = cc
skipped_head ((c ∷ cs) ∷ ws) e = ap (λ x. head_of (x ∷ cs)) (eqb-true c 35 e) ∙ hash_head cs

-- what a line begins with, by its first word
begins_head : (row : Row) (first : Word) → begins_with first row ≡ true → head_of (word_at row 0) ≡ head_of first
unfolding begins_with
begins_head row first e = ap head_of (same_words (word_at row 0) first e)

statement_head : (row : Row) → is_statement row ≡ true → (v : Verb) × (head_of (word_at row 0) ≡ head.Says v)
statement_head row e = go (verb_named (word_at row 0)) refl e
  where
    go : (o : Option Verb) → verb_named (word_at row 0) ≡ o → is_some o ≡ true → (v : Verb) × (head_of (word_at row 0) ≡ head.Says v)
    go (Some v) is s = (v, ap head_of (verb_spelled (word_at row 0) v is) ∙ (verb_head v).head)
    go None is s = cc

-- ---- limits
-- a line that begins so passes a limit
abbrev pub Over : List Row → Head → Kind → Type 0
Over before head.Script kind = (kind ≡ TooManyScripts) × (length (script_names before) ≡ MOST_SCRIPTS)
Over before head.End kind = ⊥
Over before head.Start kind = (kind ≡ TooManyStarts) × (length (start_names before) ≡ MOST_STARTS)
Over before (head.Says v) kind = (kind ≡ TooManyStatements) × (is_open before ≡ true) × (statement_count before ≡ MOST_STATEMENTS)
Over before head.Unknown kind = ⊥

-- a line passes one limit only
pub over_same : (before : List Row) (h : Head) (kind kind' : Kind) → Over before h kind → Over before h kind' → kind ≡ kind'
over_same before head.Script kind kind' a b = a.0 ∙ sym b.0
over_same before head.End kind kind' a b = absurd a
over_same before head.Start kind kind' a b = a.0 ∙ sym b.0
over_same before (head.Says v) kind kind' a b = a.0 ∙ sym b.0
over_same before head.Unknown kind kind' a b = absurd a

-- a line that passes a limit begins so
pub limit_over : (before : List Row) (row : Row) (kind : Kind) → PassesLimit before row kind → (is_begun before ≡ true) × Over before (head_of (word_at row 0)) kind
limit_over before row kind (inl a) = (a.1, rw (begins_head row (codes "script") a.2 ∙ script_head.head) (a.0, a.3))
limit_over before row kind (inr (inl a)) = let s = statement_head row a.2 in (a.1, rw s.1 (a.0, a.3, a.4))
limit_over before row kind (inr (inr a)) = (a.1, rw (begins_head row (codes "start") a.2 ∙ start_head.head) (a.0, a.3))
