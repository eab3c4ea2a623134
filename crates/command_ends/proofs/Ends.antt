-- What a command has answered, put together from what it read, said and wrote.
use Rattle.std.proofs.Common.{◌≡◌, ◌⊎◌, inl, inr, ◌<◌, ◌≤◌, ◌+◌, ℕ, List, [], length, take, Option, None, Some, refl, sym, ap, subst, ◌∙◌, arith}
use Rattle.std.specs.Io.KnownBytes.{Consumes, Appends, IsAtEnd}
use Rattle.std.proofs.KnownBytes.{Consumes-all}
use Rattle.std.proofs.lemmas.List.{length-append}
use Rattle.byte_ends.specs.Causes.{Rose}
use Rattle.command_ends.specs.declared.status.Status.{Status}
use Rattle.command_ends.specs.declared.status.Status.TheVariants.{ReadFault, WriteFault, NoMemory, TooLong}
use Rattle.command_ends.specs.Ends.{Texts, HasText, IsRead, ReadsUpTo, ReadsCount, IsAnswered}
use Rattle.byte_ends.specs.declared.limits.TheConstants.{LONGEST_INPUT}

-- what is read to the end of a source that tells its bytes is all of them
read_whole : (left left' : Option (List ℕ)) (bytes input : List ℕ) → left ≡ Some input → Consumes left left' bytes → IsAtEnd left' → bytes ≡ input
read_whole left left' bytes input told consumed end =
    let whole = Consumes-all left left' bytes [] bytes consumed end refl in
    rw told at whole

too_long_for : (left left' : Option (List ℕ)) (bytes input : List ℕ) → IsRead left left' bytes → left ≡ Some input → LONGEST_INPUT < length input → ⊥
too_long_for left left' bytes input read told long =
    let lengths = ap length (read_whole left left' bytes input told read.consumed read.ended) in
    let short = read.short in
    omega (arith, short, lengths, long)

some_same : (x y : List ℕ) → Some x ≡ Some y → x ≡ y
some_same x y e = cc

none_some : (x : List ℕ) → None ≡ Some x → ⊥
none_some x e = cc

too_many : (left left' : Option (List ℕ)) (input : List ℕ) → left ≡ Some input → length input ≤ LONGEST_INPUT → (bytes : List ℕ) → length bytes ≡ LONGEST_INPUT + 1 → Consumes left left' bytes → ⊥
too_many None left' input told short bytes count c = none_some input told
too_many (Some xs) None input told short bytes count c = c
too_many (Some xs) (Some ys) input told short bytes count c =
    let all = ap length (sym (some_same xs input told) ∙ c) ∙ length-append bytes ys in
    omega (arith, all, count, short)

-- an answer that was written, or of which a front was
pub answered : {S K : Type 0} (left : S → Option (List ℕ)) (source_faults : S → ℕ) (taken : K → Option (List ℕ)) (sink_faults : K → ℕ)
    (P : Texts) (source source' : S) (sink sink' : K) (input text : List ℕ) (status result : Status)
    → IsRead (left source) (left source') input → HasText status → P status input text
    → (result ≡ status → Appends (taken sink) (taken sink') text)
    → (result ≡ WriteFault → Rose (sink_faults sink) (sink_faults sink') × ((n : ℕ) × (n < length text) × Appends (taken sink) (taken sink') (take n text)))
    → (result ≡ status) ⊎ (result ≡ WriteFault)
    → IsAnswered left source_faults taken sink_faults P source source' sink sink' result
answered left source_faults taken sink_faults P source source' sink sink' input text status result read has said whole fault some = record {
  text = λ h. elim some [
    | inl e ↦ (record { input = input; read = read; writes = (text, subst (λ s. P s input text) (sym e) said, whole e) })
    | inr w ↦ absurd (subst HasText w h)
  ];
  read_fault = λ e. absurd (other ReadFault e (λ h. h) (λ w. cc));
  too_long = λ e. absurd (other TooLong e (λ h. h) (λ w. cc));
  write_fault = λ e. (
      let f = fault e in
      (f.0, record { input = input; read = read; writes = (text, f.1.0, (status, has, said), f.1.1, f.1.2) }));
  no_memory = λ e. absurd (other NoMemory e (λ h. h) (λ w. cc));
  bounded = (input, bound read.short, read.consumed);
  answers = λ told-input told short source_fine sink_fine. elim some [
    | inl e ↦ inl (subst HasText (sym e) has)
    | inr w ↦ absurd (sink_fine (fault w).0)
  ];
  tells_length = λ told-input told long source_fine. absurd (too_long_for (left source) (left source') input told-input read told long);
}
  where
    bound : length input ≤ LONGEST_INPUT → length input ≤ LONGEST_INPUT + 1
    bound h = omega (arith, h)

    other : (s : Status) → result ≡ s → (HasText s → ⊥) → (WriteFault ≡ s → ⊥) → ⊥
    other s e bad not = elim some [
      | inl e' ↦ bad (subst HasText (sym e' ∙ e) has)
      | inr w ↦ not (sym w ∙ e)
    ]

-- memory that runs out when all is read
pub ran_out : {S K : Type 0} (left : S → Option (List ℕ)) (source_faults : S → ℕ) (taken : K → Option (List ℕ)) (sink_faults : K → ℕ)
    (P : Texts) (source source' : S) (sink : K) (input : List ℕ)
    → IsRead (left source) (left source') input → IsAnswered left source_faults taken sink_faults P source source' sink sink NoMemory
ran_out left source_faults taken sink_faults P source source' sink input read = record {
  text = λ h. absurd h;
  read_fault = λ e. cc;
  too_long = λ e. cc;
  write_fault = λ e. cc;
  no_memory = λ e. refl;
  bounded = (input, bound read.short, read.consumed);
  answers = λ told-input told short source_fine sink_fine. inr refl;
  tells_length = λ told-input told long source_fine. inr refl;
}
  where
    bound : length input ≤ LONGEST_INPUT → length input ≤ LONGEST_INPUT + 1
    bound h = omega (arith, h)

-- a reading that ends without an input
pub unread : {S K : Type 0} (left : S → Option (List ℕ)) (source_faults : S → ℕ) (taken : K → Option (List ℕ)) (sink_faults : K → ℕ)
    (P : Texts) (source source' : S) (sink : K) (status : Status)
    → ReadsUpTo (LONGEST_INPUT + 1) (left source) (left source')
    → (status ≡ ReadFault → Rose (source_faults source) (source_faults source'))
    → (status ≡ TooLong → ReadsCount (LONGEST_INPUT + 1) (left source) (left source'))
    → (status ≡ ReadFault) ⊎ ((status ≡ TooLong) ⊎ (status ≡ NoMemory))
    → IsAnswered left source_faults taken sink_faults P source source' sink sink status
unread left source_faults taken sink_faults P source source' sink status bounded fault long some = record {
  text = λ h. absurd (elim some [
    | inl e ↦ subst HasText e h
    | inr (inl e) ↦ subst HasText e h
    | inr (inr e) ↦ subst HasText e h
  ]);
  read_fault = λ e. (fault e, refl);
  too_long = λ e. (long e, refl);
  write_fault = λ e. absurd (elim some [
    | inl e' ↦ read_or_write (sym e' ∙ e)
    | inr (inl e') ↦ long_or_write (sym e' ∙ e)
    | inr (inr e') ↦ memory_or_write (sym e' ∙ e)
  ]);
  no_memory = λ e. refl;
  bounded = bounded;
  answers = λ input told short source_fine sink_fine. elim some [
    | inl e ↦ absurd (source_fine (fault e))
    | inr (inl e) ↦ absurd (counted input told short (long e))
    | inr (inr e) ↦ inr e
  ];
  tells_length = λ input told more source_fine. elim some [
    | inl e ↦ absurd (source_fine (fault e))
    | inr (inl e) ↦ inl e
    | inr (inr e) ↦ inr e
  ];
}
  where
    read_or_write : ReadFault ≡ WriteFault → ⊥
    read_or_write e = cc

    long_or_write : TooLong ≡ WriteFault → ⊥
    long_or_write e = cc

    memory_or_write : NoMemory ≡ WriteFault → ⊥
    memory_or_write e = cc

    counted : (input : List ℕ) → left source ≡ Some input → length input ≤ LONGEST_INPUT → ReadsCount (LONGEST_INPUT + 1) (left source) (left source') → ⊥
    counted input told short r = too_many (left source) (left source') input told short r.0 r.1 r.2
