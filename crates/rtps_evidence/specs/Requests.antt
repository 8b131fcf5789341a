-- What became of the last request for each number. own: a reader's requests and what a writer sends are gone through once.
use Rattle.std.specs.Prelude.{ℕ, Bool, false, ◌||◌, ◌&&◌, not, if◌then◌else◌, List, Option, Some, None}
use Rattle.std.specs.List.{list_any}
use Rattle.std.specs.Option.{option_map}
use Rattle.rtps_discovery.specs.declared.matching.Pair.{Pair}
use Rattle.rtps_audit.specs.Placed as placed
use Rattle.rtps_evidence.specs.Locations as locations
use Rattle.rtps_evidence.specs.Missed as missed
use Rattle.rtps_evidence.specs.declared.location.Location.{Location}
use Rattle.rtps_evidence.specs.declared.missed_numbers.Request.{Request}

-- it is there, and passes a test
abbrev pub option_any : {X : Type 0} → (X → Bool) → Option X → Bool
option_any test None = false
option_any test (Some x) = test x

-- a request of which nothing became yet
abbrev pub new_request : Location → Request
new_request place = record { place = place; is_met = false; is_again = false }

-- the last request for n by these acts of the reader, where it lacks n
abbrev pub requested : Pair → List placed.PlacedValue → (ℕ → Bool) → ℕ → Option Request
requested pair asks lacks n =
    if lacks n then option_map (λ asking. new_request (locations.location_of asking)) (locations.find_last (missed.asks_for pair.writer pair.reader n) asks) else None

-- a request behind an act that brings its number
abbrev pub met_at : Option Location → placed.PlacedValue → Request → Request
met_at since placed request =
    record {
      place = request.place;
      is_met = request.is_met || locations.is_behind (Some request.place) placed;
      is_again = request.is_again || (locations.is_before request.place placed && locations.is_behind since placed);
    }

-- a request for n behind an act
abbrev pub met_by : Option Location → Pair → ℕ → placed.PlacedValue → Request → Request
met_by since pair n placed request = if missed.brings pair.writer pair.reader n placed then met_at since placed request else request

-- a request for n behind these acts
abbrev pub met_among : Option Location → Pair → ℕ → List placed.PlacedValue → Request → Request
met_among since pair n acts request =
    record {
      place = request.place;
      is_met = request.is_met || list_any (missed.brings_behind (Some request.place) pair.writer pair.reader n) acts;
      is_again = request.is_again || list_any (missed.brings_before since request.place pair.writer pair.reader n) acts;
    }

-- nothing of the number comes behind the request, or it came before
abbrev pub is_in_vain : Request → Bool
is_in_vain request = not request.is_met || request.is_again
