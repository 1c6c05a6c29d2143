-- From bytes to tokens, and from these to the tree.
use Rattle.std.proofs.Common.{◌≡◌, ℕ, ◌-◌, ◌≤◌, inl, inr, true, false, List, [], ◌∷◌, ◌++◌, length, take, Result, Ok, Err, refl, sym, ap, subst, ◌∙◌, append_assoc, arith}
use Rattle.std.specs.Prelude.{◌↔◌}
use Rattle.std.proofs.lemmas.List.{length-append}
use Rattle.pb_text.specs.declared.place.Place.{Place}
use Rattle.pb_text.specs.declared.token.Token.{Token}
use Rattle.pb_text.specs.Places.{first_place, place_after}
use Rattle.pb_text.specs.Tokens.{IsText}
use Rattle.pb_lex.specs.declared.error.LexError.{LexError}
use Rattle.pb_lex.specs.declared.error.LexError.TheVariants as errors
use Rattle.pb_lex.specs.declared.error.LexFault.{LexFault}
use Rattle.pb_lex.specs.declared.error.LexFault.TheVariants as lexical
use Rattle.pb_lex.specs.Seen.{IsFirstError, IsRefusal}
use Rattle.pb_lex.proofs.Ways.{one_text, text_or_fault}
use Rattle.pb_parse.specs.Gives.{place_at}
use Rattle.pb_parse.specs.Parsed.{OfTokens}
use Rattle.pb_types.specs.declared.tree.TypesFile.{TypesFile}
use Rattle.pb_types.specs.declared.fault.TypesFault.{TypesFault}
use Rattle.pb_types.specs.declared.fault.TypesFault.TheVariants as fault
use Rattle.pb_types.specs.Plain.{PlainTypes, plain_file}
use Rattle.pb_types.specs.Grammar.{IsTypesFile, IsTypesFront}
use Rattle.pb_types.specs.Readers.{whole_at}
use Rattle.pb_types.specs.Unexpected.{StopsBefore, EndsEarly, Tells}
use Rattle.pb_types.specs.Read.{IsRead, IsReadText, IsTextFault, IsFault, TakesType, Gives, lex_fault, is_word, word_stands, nothing_left}
use Rattle.pb_types.proofs.Final.{whole_tells, text_front, one_tree, front_front, stops_front}

-- a text has no lexical fault
no_error : (bytes : List ℕ) (ts : List Token) (error : LexError) → IsText bytes ts → IsFirstError bytes error → ⊥
no_error bytes ts (errors.BadByte place) p q = text_or_fault bytes ts _ place p q
no_error bytes ts (errors.OpenComment place) p q = text_or_fault bytes ts _ place p q
no_error bytes ts (errors.NumberTooLarge place) p q = text_or_fault bytes ts _ place p q
no_error bytes ts (errors.NameTooLong place) p q = text_or_fault bytes ts _ place p q

pub refused_text : (bytes : List ℕ) (fault : LexFault) → IsRefusal bytes fault → IsTextFault bytes (lex_fault fault)
refused_text bytes (lexical.Bad error) h = h
refused_text bytes lexical.NoMemory h = tt

pub read_text : (bytes : List ℕ) (ts : List Token) (result : Result TypesFile TypesFault) → IsText bytes ts → IsRead (place_after first_place bytes) ts result → IsReadText bytes result
read_text bytes ts (Ok f) text p = (ts, text, p)
read_text bytes ts (Err (fault.Lex error)) text p = absurd p
read_text bytes ts (Err fault.NoMemory) text p = tt
read_text bytes ts (Err (fault.Unexpected place)) text p = (ts, text, p)
read_text bytes ts (Err (fault.UnknownType place)) text p = (ts, text, p)

-- what is a file is read, unless memory runs out
only : (end : Place) (ts : List Token) (result : Result TypesFile TypesFault) → IsRead end ts result → (file : PlainTypes) → IsTypesFile ts file → Gives file result
only end ts (Ok f) p file h = one_tree ts (plain_file f) file p h
only end ts (Err (fault.Lex error)) p file h = absurd p
only end ts (Err fault.NoMemory) p file h = tt
only end ts (Err (fault.Unexpected place)) (inl p) file h = absurd (p.here.stops.there (stops_front ts file h p.here.token p.here.rest p.here.stops))
only end ts (Err (fault.Unexpected place)) (inr p) file h = absurd (p.0.no_file file h)
only end ts (Err (fault.UnknownType place)) p file h = absurd (p.here.stops.there (stops_front ts file h p.here.token p.here.rest p.here.stops))

only_of : (bytes : List ℕ) (result : Result TypesFile TypesFault) (tokens : List Token) (file : PlainTypes) → IsText bytes tokens → IsTypesFile tokens file → OfTokens bytes (λ ts. IsRead (place_after first_place bytes) ts result) → Gives file result
only_of bytes result tokens file text h p =
    let same : tokens ≡ p.0 = one_text bytes tokens p.0 text p.1 in
    only (place_after first_place bytes) p.0 result p.2 file (subst (λ (ts : List Token). IsTypesFile ts file) same h)

pub only_text : (bytes : List ℕ) (result : Result TypesFile TypesFault) → IsReadText bytes result → (tokens : List Token) (file : PlainTypes) → IsText bytes tokens → IsTypesFile tokens file → Gives file result
only_text bytes (Ok f) p tokens file text h = only_of bytes (Ok f) tokens file text h p
only_text bytes (Err (fault.Lex error)) p tokens file text h = absurd (no_error bytes tokens error text p)
only_text bytes (Err fault.NoMemory) p tokens file text h = tt
only_text bytes (Err (fault.Unexpected place)) p tokens file text h = only_of bytes (Err (fault.Unexpected place)) tokens file text h p
only_text bytes (Err (fault.UnknownType place)) p tokens file text h = only_of bytes (Err (fault.UnknownType place)) tokens file text h p

pub file_read : (ts : List Token) (f : TypesFile) (rest : List Token) → whole_at ts ≡ Ok (plain_file f, rest) → IsTypesFile ts (plain_file f)
file_read ts f rest e = subst (Tells ts) e (whole_tells ts)

-- ---- fronts

pub front_whole : (ts : List Token) (f : PlainTypes) (rest : List Token) → whole_at ts ≡ Ok (f, rest) → IsTypesFront ts
front_whole ts f rest e = let file : IsTypesFile ts f = subst (Tells ts) e (whole_tells ts) in text_front ts f file

pub front_none : (ts : List Token) → whole_at ts ≡ Err [] → IsTypesFront ts
front_none ts e = let early : EndsEarly ts = subst (Tells ts) e (whole_tells ts) in early.front

pub front_not : (ts : List Token) (t : Token) (rest : List Token) → whole_at ts ≡ Err (t ∷ rest) → IsTypesFront ts → ⊥
front_not ts t rest e h =
    let s : StopsBefore ts t rest = subst (Tells ts) e (whole_tells ts) in
    let cut : ts ≡ (s.front ++ (t ∷ [])) ++ rest = s.split ∙ sym (append_assoc s.front (t ∷ []) rest) in
    s.there (front_front (s.front ++ (t ∷ [])) rest (subst IsTypesFront cut h))

pub front_left : (ts rest : List Token) → whole_at ts ≡ Err rest → (nothing_left rest ≡ true) ↔ IsTypesFront ts
front_left ts [] e = (λ yes. front_none ts e, λ front. refl)
front_left ts (t ∷ rest) e = (λ yes. cc, λ front. absurd (front_not ts t rest e front))

-- ---- refusals

take_all : (xs ys : List Token) → take (length xs) (xs ++ ys) ≡ xs
take_all [] ys = refl
take_all (x ∷ xs) ys = ap (λ (l : List Token). x ∷ l) (take_all xs ys)

module _ (ts : List Token) where
  front_is : (xs rest : List Token) → ts ≡ xs ++ rest → take (length ts - length rest) ts ≡ xs
  front_is xs rest e =
      let n : length ts - length rest ≡ length xs = omega (arith, ap (length {A = Token}) e, length-append xs rest) in
      ap (λ (k : ℕ). take k ts) n ∙ ap (λ (l : List Token). take (length xs) l) e ∙ take_all xs rest

  pub shorter : (rest : List Token) → whole_at ts ≡ Err rest → length rest ≤ length ts
  shorter [] e = omega arith
  shorter (t ∷ rest) e =
      let s : StopsBefore ts t rest = subst (Tells ts) e (whole_tells ts) in
      omega (arith, ap (length {A = Token}) s.split, length-append s.front (t ∷ rest))

  -- no word
  pub refused_other : (end : Place) (rest : List Token) → whole_at ts ≡ Err rest → word_stands rest ≡ false → IsFault end ts (fault.Unexpected (place_at end rest))
  refused_other end [] e h = let early : EndsEarly ts = subst (Tells ts) e (whole_tells ts) in inr (early, refl)
  refused_other end (t ∷ rest) e h =
      let s : StopsBefore ts t rest = subst (Tells ts) e (whole_tells ts) in
      inl (record { here = record { token = t; rest = rest; stops = s; at = refl }; other = λ w. let yes : is_word t.kind ≡ true = w.0 in cc })

  -- a word in the place of a type
  pub refused_type : (end : Place) (rest : List Token) → whole_at ts ≡ Err rest → word_stands rest ≡ true → TakesType (take (length ts - length rest) ts) → IsFault end ts (fault.UnknownType (place_at end rest))
  refused_type end [] e h takes = cc
  refused_type end (t ∷ rest) e h takes =
      let s : StopsBefore ts t rest = subst (Tells ts) e (whole_tells ts) in
      record { here = record { token = t; rest = rest; stops = s; at = refl }; word = (h, subst TakesType (front_is s.front (t ∷ rest) s.split) takes) }

  -- a word elsewhere
  pub refused_word : (end : Place) (rest : List Token) → whole_at ts ≡ Err rest → word_stands rest ≡ true → (TakesType (take (length ts - length rest) ts) → ⊥) → IsFault end ts (fault.Unexpected (place_at end rest))
  refused_word end [] e h takes = cc
  refused_word end (t ∷ rest) e h takes =
      let s : StopsBefore ts t rest = subst (Tells ts) e (whole_tells ts) in
      inl (record { here = record { token = t; rest = rest; stops = s; at = refl }; other = λ w. takes (subst TakesType (sym (front_is s.front (t ∷ rest) s.split)) w.1) })
