-- Neither list of a value is longer than half of its text.
use Rattle.std.proofs.Common.{◌≡◌, ◌+◌, ◌*◌, ◌≤◌, ◌^◌, ◌-◌, ℕ, List, [], ◌∷◌, ◌++◌, Option, Some, None, length, map, flat_map, option_to_list, refl, ap, arith, length-append, IsUtf8}
use Rattle.std.proofs.lemmas.List.{length-map}
use Rattle.wkt_num.specs.Bytes.{Lexeme, Close}
use Rattle.wkt_access.specs.declared.dimensions.Dimension.{Dimension}
use Rattle.wkt_access.specs.Values.{Value, Values}
use Rattle.wkt_types.specs.declared.geometry_type.GeometryType.{GeometryType}
use Rattle.wkt_types.specs.declared.geometry_type.GeometryType.TheVariants as kind
use Rattle.wkt_read.specs.Grammar.{Listed, Perhaps, WithHeader, Coord, Ring, Poly, Member, StandFor, Geometries, Further}
use Rattle.wkt_read.specs.Front.{Front}
use Rattle.wkt_machine.specs.Machine.{part_of}
use Rattle.wkt_machine.specs.Room.{header_cost}
use Rattle.wkt_machine.proofs.RoomForRest.{kind_cost}
use Rattle.wkt_fill.specs.Arrays.{joined, numbers_in}
use Rattle.wkt_fill.specs.EventLists.{whole, ends, event_list, event_lists, number_list, number_lists, halves, WritesFront}
use Rattle.wkt_fill.specs.declared.event_writer.EventRoom.{EventRoom}
use Rattle.wkt_fill.specs.declared.front_events.EventCounts.{EventCounts}
use Rattle.wkt_calls.specs.Answer.{read_at}
use Rattle.wkt_calls.specs.EventCalls.{AreInRooms}
use Rattle.wkt_calls.proofs.Few.{least, least_on, takes_least, costs, numbers_cost, empty_cost, listed_cost, perhaps_cost, coord_cost, coord_four, ring_cost, ring_five, poly_cost, member_cost, member_four, costs-length, numbers-joined, numbers-in, headed}

kind_some : (k : GeometryType) → 8 ≤ header_cost (part_of k)
kind_some kind.Point = omega arith
kind_some kind.LineString = omega arith
kind_some kind.Polygon = omega arith
kind_some kind.MultiPoint = omega arith
kind_some kind.MultiLineString = omega arith
kind_some kind.MultiPolygon = omega arith
kind_some kind.GeometryCollection = omega arith

-- a header takes as much as the events of a begin and an end
begun : (k : GeometryType) (d : Dimension) (P : List Lexeme → Type 0) (n : ℕ) → ((ls : List Lexeme) → P ls → n ≤ least ls) → (ls : List Lexeme) → WithHeader k d P ls → n + 4 ≤ least ls
begun k d P n each ls (h, b, e, (run, row, more, is, word, same, rest), body) =
    let inner = each b body in
    let some = kind_some row.kind in
    let long = kind_cost run row word in
    let first : least h ≡ length run + 0 + least more = ap least is in
    let both = least_on h b in
    let all : least ls ≡ least (h ++ b) = ap least e in
    omega (arith, inner, some, long, first, both, all)

-- the length of lists that are joined, as a sum
costs-flat : {A B : Type 0} (f : A → List B) (xs : List A) → costs (λ x. 2 * length (f x)) xs ≡ 2 * length (flat_map f xs)
costs-flat f [] = refl
costs-flat f (x ∷ xs) = let more = costs-flat f xs in let long = length-append (f x) (flat_map f xs) in omega (arith, more, long)

whole-length : (k : GeometryType) (d : Dimension) (es : List ℕ) → length (whole k d es) ≡ 2 + length es
whole-length k d es = let long = length-append es (ends ∷ []) in omega (arith, long)

module _ {N : Type 0} (read : List ℕ → Option N) (d : Dimension) where
  point-five : (ls : List Lexeme) (c : Option (List N)) → Perhaps (Coord read d) ls c → 5 ≤ least ls
  point-five ls None h = empty_cost ls h
  point-five ls (Some c) h = let one = perhaps_cost (Coord read d) (λ _. 4) (coord_four read d) ls (Some c) h in omega (arith, one)

  rings-six : (ls : List Lexeme) (rs : List (List (List N))) → Listed (Ring read d) ls rs → 2 * length rs ≤ least ls
  rings-six ls rs h =
      let one = listed_cost (Ring read d) (λ _. 2) (λ ls cs k. let five = ring_five read d ls cs k in omega (arith, five)) ls rs h in
      let sum = costs-length 2 rs in
      omega (arith, one, sum)

  area-events : (ls : List Lexeme) (rs : List (List (List N))) → Poly read d ls rs → 2 * length (whole kind.Polygon d (map length rs)) ≤ least ls + 1
  area-events ls [] h = let five = empty_cost ls h in omega (arith, five)
  area-events ls (r ∷ rs) h =
      let one = listed_cost (Ring read d) (λ _. 6) (λ ls cs k. let five = ring_five read d ls cs k in omega (arith, five)) ls (r ∷ rs) h in
      let sum = costs-length 6 rs in
      let long = whole-length kind.Polygon d (map length (r ∷ rs)) in
      let same = length-map rs length in
      omega (arith, one, sum, long, same)

  ring-numbers : (ls : List Lexeme) (cs : List (List N)) → Ring read d ls cs → 2 * length (joined cs) ≤ least ls + 1
  ring-numbers ls cs h = let one = ring_cost read d ls cs h in let sum = numbers-joined cs in omega (arith, one, sum)

  member-numbers : (ls : List Lexeme) (m : Option (List N)) → Member read d ls m → 2 * length (joined (option_to_list m)) ≤ least ls + 1
  member-numbers ls m h = let one = member_cost read d ls m h in let sum = numbers-joined (option_to_list m) in omega (arith, one, sum)

  area-numbers : (ls : List Lexeme) (rs : List (List (List N))) → Poly read d ls rs → 2 * length (numbers_in rs) ≤ least ls + 1
  area-numbers ls rs h = let one = poly_cost read d ls rs h in let sum = numbers-in rs in omega (arith, one, sum)

-- Both lists fit into half of so many bytes.
record AreHalf {N : Type 0} (events : List ℕ) (numbers : List N) (bytes : ℕ) : Type 0 where
  of_events : 2 * length events ≤ bytes
  of_numbers : 2 * length numbers ≤ bytes

half : {N : Type 0} (k : GeometryType) (d : Dimension) (es : List ℕ) (ns : List N) (bytes : ℕ) → 2 * length es + 4 ≤ bytes → 2 * length ns ≤ bytes → AreHalf (whole k d es) ns bytes
half k d es ns bytes h g = record { of_events = let long = whole-length k d es in omega (arith, long, h); of_numbers = g }

halves-add : {N : Type 0} (es fs : List ℕ) (ns ms : List N) (a b bytes : ℕ) → AreHalf es ns a → AreHalf fs ms b → a + b ≤ bytes → AreHalf (es ++ fs) (ns ++ ms) bytes
halves-add es fs ns ms a b bytes h g le = record {
  of_events = let x = h.of_events in let y = g.of_events in let long = length-append es fs in omega (arith, x, y, long, le);
  of_numbers = let x = h.of_numbers in let y = g.of_numbers in let long = length-append ns ms in omega (arith, x, y, long, le);
}

module _ {N : Type 0} (read : List ℕ → Option N) where
  rings-half : (k : GeometryType) (d : Dimension) (rs : List (List (List N))) (ls : List Lexeme) → WithHeader k d (λ b. Poly read d b rs) ls → AreHalf (whole k d (map length rs)) (numbers_in rs) (least ls)
  rings-half k d rs ls h =
      let some = begun k d _ (2 * length rs) (λ b k. rings-six read d b rs k) ls h in
      let same = length-map rs length in
      let one : costs (λ cs. 2 * length (joined cs)) rs + 1 ≤ least ls = headed read _ d _ _ (λ b k. listed_cost (Ring read d) (λ cs. 2 * length (joined cs)) (ring-numbers read d) b rs k) ls h in
      let sum = costs-flat joined rs in
      half k d (map length rs) (numbers_in rs) (least ls) (omega (arith, some, same)) (omega (arith, one, sum))

  mutual
    value-half : (v : Value N) (ls : List Lexeme) → StandFor read ls v → AreHalf (event_list v) (number_list v) (least ls)
    value-half (Value.point d c) ls h =
        let five = begun kind.Point d _ 5 (λ b k. point-five read d b c k) ls h in
        let one : costs numbers_cost (option_to_list c) + 1 ≤ least ls = headed read _ d _ _ (λ b k. perhaps_cost (Coord read d) numbers_cost (coord_cost read d) b c k) ls h in
        let sum = numbers-joined (option_to_list c) in
        half kind.Point d (length (option_to_list c) ∷ []) (joined (option_to_list c)) (least ls) (omega (arith, five)) (omega (arith, one, sum))
    value-half (Value.line_string d cs) ls h =
        let five = begun kind.LineString d _ 5 (λ b k. ring_five read d b cs k) ls h in
        let one : costs numbers_cost cs + 1 ≤ least ls = headed read _ d _ _ (λ b k. listed_cost (Coord read d) numbers_cost (coord_cost read d) b cs k) ls h in
        let sum = numbers-joined cs in
        half kind.LineString d (length cs ∷ []) (joined cs) (least ls) (omega (arith, five)) (omega (arith, one, sum))
    value-half (Value.polygon d rs) ls h = rings-half kind.Polygon d rs ls h
    value-half (Value.multi_line_string d rs) ls h = rings-half kind.MultiLineString d rs ls h
    value-half (Value.multi_point d ms) ls h =
        let some : costs (λ _. 2) ms + 1 + 4 ≤ least ls = begun kind.MultiPoint d _ _ (λ b k. listed_cost (Member read d) (λ _. 2) (λ ls m k. let four = member_four read d ls m k in omega (arith, four)) b ms k) ls h in
        let two = costs-length 2 ms in
        let same = length-map ms (λ m. length (option_to_list m)) in
        let one : costs (λ m. 2 * length (joined (option_to_list m))) ms + 1 ≤ least ls = headed read _ d _ _ (λ b k. listed_cost (Member read d) (λ m. 2 * length (joined (option_to_list m))) (member-numbers read d) b ms k) ls h in
        let sum = costs-flat (λ m. joined (option_to_list m)) ms in
        half kind.MultiPoint d (map (λ m. length (option_to_list m)) ms) (flat_map (λ m. joined (option_to_list m)) ms) (least ls) (omega (arith, some, two, same)) (omega (arith, one, sum))
    value-half (Value.multi_polygon d ps) ls h =
        let some : costs (λ rs. 2 * length (whole kind.Polygon d (map length rs))) ps + 1 + 4 ≤ least ls = begun kind.MultiPolygon d _ _ (λ b k. listed_cost (Poly read d) (λ rs. 2 * length (whole kind.Polygon d (map length rs))) (area-events read d) b ps k) ls h in
        let two = costs-flat (λ rs. whole kind.Polygon d (map length rs)) ps in
        let one : costs (λ rs. 2 * length (numbers_in rs)) ps + 1 ≤ least ls = headed read _ d _ _ (λ b k. listed_cost (Poly read d) (λ rs. 2 * length (numbers_in rs)) (area-numbers read d) b ps k) ls h in
        let sum = costs-flat numbers_in ps in
        half kind.MultiPolygon d (flat_map (λ rs. whole kind.Polygon d (map length rs)) ps) (flat_map numbers_in ps) (least ls) (omega (arith, some, two)) (omega (arith, one, sum))
    value-half (Value.collection d vs) ls h =
        let some : 2 * length (event_lists vs) + 4 ≤ least ls = begun kind.GeometryCollection d _ _ (λ b k. (geometries-half vs b k).of_events) ls h in
        let one : 2 * length (number_lists vs) ≤ least ls = headed read _ d _ _ (λ b k. (geometries-half vs b k).of_numbers) ls h in
        half kind.GeometryCollection d (event_lists vs) (number_lists vs) (least ls) some one

    geometries-half : (vs : Values N) (ls : List Lexeme) → Geometries read ls vs → AreHalf (event_lists vs) (number_lists vs) (least ls)
    geometries-half Values.no_values ls h = record { of_events = omega arith; of_numbers = omega arith }
    geometries-half (Values.more_values v vs) ls (a, b, e, first, rest) =
        let both = least_on a b in
        let close = least_on (a ++ b) (Close ∷ []) in
        let long : least ls ≡ 1 + 0 + least ((a ++ b) ++ Close ∷ []) = ap least e in
        halves-add (event_list v) (event_lists vs) (number_list v) (number_lists vs) (least a) (least b) (least ls) (value-half v a first) (further-half vs b rest) (omega (arith, both, close, long))

    further-half : (vs : Values N) (ls : List Lexeme) → Further read ls vs → AreHalf (event_lists vs) (number_lists vs) (least ls)
    further-half Values.no_values ls h = record { of_events = omega arith; of_numbers = omega arith }
    further-half (Values.more_values v vs) ls (a, b, e, first, rest) =
        let both = least_on a b in
        let long : least ls ≡ 1 + 0 + least (a ++ b) = ap least e in
        halves-add (event_list v) (event_lists vs) (number_list v) (number_lists vs) (least a) (least b) (least ls) (value-half v a first) (further-half vs b rest) (omega (arith, both, long))

pub half_enough : {N : Type 0} (read : List ℕ → Option N) (text : List ℕ) (v : Value N) (end : ℕ) → Front read text v end → (2 * length (event_list v) ≤ length text) × (2 * length (number_list v) ≤ length text)
half_enough read text v end f =
    let few = (takes_least text f.lexemes f.rest f.taken).0 in
    let h = value-half read v f.lexemes f.reads in
    let x = h.of_events in
    let y = h.of_numbers in
    (omega (arith, few, x), omega (arith, few, y))

-- The lists of the front, which can be counted.
pub in-rooms : (places : ℕ) (text : List ℕ) (old new : EventRoom) (c : EventCounts) → WritesFront places text old new c → IsUtf8 text → length text ≤ 2 ^ 64 - 1 → AreInRooms places text old new c
in-rooms places text old new c w utf8 long =
    let enough = half_enough (read_at places) text w.value c.end w.front in
    let events : 2 * length (event_list w.value) ≤ length text = enough.0 in
    let numbers : 2 * length (number_list w.value) ≤ length text = enough.1 in
    let same = length-map (number_list w.value) halves in
    let all = w.lists (omega (arith, events, long)) (omega (arith, numbers, long)) in
    record {
      counted = record {
        es = event_list w.value;
        ns = map halves (number_list w.value);
        lists = record {
          utf8 = utf8;
          value = w.value;
          front = w.front;
          fits = w.fits;
          events_are = refl;
          numbers_are = refl;
          few_events = events;
          few_numbers = omega (arith, numbers, same);
        };
        events = all.list.counted;
        numbers = all.units.counted;
      };
      within = w.within;
      events_in = all.list.front;
      numbers_in = all.units.front;
    }
