use Rattle.std.proofs.Common.{◌≡◌, length, arith}
use Rattle.apd_driver.proofs.Rows.{listed, listed_behind}
use Rattle.apd_driver.proofs.answers.lines.append_answer.Goals as goal

pub returns-in_ok-append_end-in-Usages : goal.returns-in_ok-append_end-in-Usages
returns-in_ok-append_end-in-Usages c =
    let rows = rw c.as_slice.ensures.value at c.in_ok-append_usages-in-Usages.ensures.ok in
    let many : c.in-Usages.usages.len ≡ length c.in-Usages.usages.items = omega (arith, c.in-Usages.usages.ok.0) in
    let end = rw many at (rw c.len.ensures at c.in_ok-append_end-in-Usages.ensures.ok) in
    record { ok = rw c.in-Usages.is (listed _ _ _ _ _ rows end) }

pub returns-in_ok-append_end-in-Stations : goal.returns-in_ok-append_end-in-Stations
returns-in_ok-append_end-in-Stations c =
    let rows = rw c.as_slice-in-Stations.ensures.value at c.in_ok-append_stations-in-Stations.ensures.ok in
    let many : c.in-Stations.rows.len ≡ length c.in-Stations.rows.items = omega (arith, c.in-Stations.rows.ok.0) in
    let end = rw many at (rw c.len-in-Stations.ensures at c.in_ok-append_end-in-Stations.ensures.ok) in
    record { ok = rw c.in-Stations.is (listed _ _ _ _ _ rows end) }

pub returns-in_ok-append_end-in-Agreements : goal.returns-in_ok-append_end-in-Agreements
returns-in_ok-append_end-in-Agreements c =
    let rows = rw c.as_slice-in-Agreements.ensures.value at c.in_ok-append_agreements-in-Agreements.ensures.ok in
    let many : c.in-Agreements.rows.len ≡ length c.in-Agreements.rows.items = omega (arith, c.in-Agreements.rows.ok.0) in
    let end = rw many at (rw c.len-in-Agreements.ensures at c.in_ok-append_end-in-Agreements.ensures.ok) in
    record { ok = rw c.in-Agreements.is (listed _ _ _ _ _ rows end) }

pub returns-in_ok-append_end-in-Programs : goal.returns-in_ok-append_end-in-Programs
returns-in_ok-append_end-in-Programs c =
    let rows = rw c.as_slice-in-Programs.ensures.value at c.in_ok-append_programs-in-Programs.ensures.ok in
    let many : c.in-Programs.rows.len ≡ length c.in-Programs.rows.items = omega (arith, c.in-Programs.rows.ok.0) in
    let end = rw many at (rw c.len-in-Programs.ensures at c.in_ok-append_end-in-Programs.ensures.ok) in
    record { ok = rw c.in-Programs.is (listed _ _ _ _ _ rows end) }

pub returns-in_ok-append_end-in-Dump : goal.returns-in_ok-append_end-in-Dump
returns-in_ok-append_end-in-Dump c =
    let rows = rw c.as_slice-in-Dump.ensures.value at c.in_ok-append_entries-in-Dump.ensures.ok in
    let many : c.in-Dump.entries.len ≡ length c.in-Dump.entries.items = omega (arith, c.in-Dump.entries.ok.0) in
    let end = rw many at (rw c.len-in-Dump.ensures at c.in_ok-append_end-in-Dump.ensures.ok) in
    record { ok = rw c.in-Dump.is (listed_behind _ _ _ _ _ _ _ c.in_ok-append_map-in-Dump.ensures.ok rows end) }
