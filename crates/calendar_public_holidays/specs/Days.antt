-- Document 02, (a): "The eleven federal days and six regional days are those of source document 000". That paper's step 4, "Ermittlung der
-- bundeseinheitlichen Feiertage" and "Ermittlung der variablen Feiertage (differenziert nach Bundesländern)", in its order.
use Rattle.std.specs.Prelude.{List, [], ◌∷◌, ℕ, ◌+◌, ◌-◌}
use Rattle.calendar_dates.specs.declared.Date.{Date}
use Rattle.calendar_movable_days.specs.Counted.{on, march_day}
use Rattle.calendar_movable_days.specs.Easter.{easter_day, easter_sunday}
use Rattle.calendar_movable_days.specs.Repentance.{repentance}

-- "Good Friday is Easter - 2, Easter Monday + 1, Ascension + 39, Whit Sunday + 49, Whit Monday + 50, Corpus Christi + 60"
abbrev pub good_friday : ℕ → Date
good_friday year = march_day year (easter_day year - 2)

abbrev pub easter_monday : ℕ → Date
easter_monday year = march_day year (easter_day year + 1)

abbrev pub ascension : ℕ → Date
ascension year = march_day year (easter_day year + 39)

abbrev pub whit_sunday : ℕ → Date
whit_sunday year = march_day year (easter_day year + 49)

abbrev pub whit_monday : ℕ → Date
whit_monday year = march_day year (easter_day year + 50)

abbrev pub corpus_christi : ℕ → Date
corpus_christi year = march_day year (easter_day year + 60)

-- "Diese sind z.B. im Jahr 2000:" 24 and 31 December are none of them; document 02, (b), says what they count as.
abbrev pub federal_days : ℕ → List Date
federal_days year =
    -- "01.01. – Neujahr"
    on year 1 1
    -- "21.04. – Karfreitag"
    ∷ good_friday year
    -- "23.04. – Ostersonntag"
    ∷ easter_sunday year
    -- "24.04. – Ostermontag"
    ∷ easter_monday year
    -- "01.05. – Maifeiertag"
    ∷ on year 5 1
    -- "01.06. – Himmelfahrt"
    ∷ ascension year
    -- "11.06. – Pfingstsonntag"
    ∷ whit_sunday year
    -- "12.06. – Pfingstmontag"
    ∷ whit_monday year
    -- "03.10. – Tag der deutschen Einheit"
    ∷ on year 10 3
    -- "25.12. – 1. Weihnachtsfeiertag"
    ∷ on year 12 25
    -- "26.12. – 2. Weihnachtsfeiertag"
    ∷ on year 12 26
    ∷ []

-- "Diese sind z.B. im Jahr 2000:"
abbrev pub regional_days : ℕ → List Date
regional_days year =
    -- "06.01. – Heilige Drei Könige"
    on year 1 6
    -- "22.06. – Fronleichnam"
    ∷ corpus_christi year
    -- "15.08. – Mariä Himmelfahrt"
    ∷ on year 8 15
    -- "31.10. – Reformationstag"
    ∷ on year 10 31
    -- "01.11. – Allerheiligen"
    ∷ on year 11 1
    -- "22.11. – Buß- und Bettag"
    ∷ repentance year
    ∷ []
