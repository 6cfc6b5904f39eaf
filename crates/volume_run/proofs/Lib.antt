mod Unjournaled
mod Printed
